-- Bytes written to the tables, and what becomes of the records. Assumes nothing.
use Prim.Native.Nat.{ℕ, zero, suc, ◌+◌, ◌-◌, ◌*◌, ◌^◌, ◌≤◌, ◌<◌}
use native.Mathlib.Nat.{zero-add}
use native.Mathlib.Omega.{arith}
use mathlib.Core.Path.{◌≡◌, refl, sym, ap, ap₂, ◌∙◌}
use mathlib.Core.Bool.{Bool, true, false}
use mathlib.Core.Logic.{⊎_elim}
use mathlib.Core.List.{List, [], ◌∷◌, ◌++◌, map, append_assoc}
use lib.ListN.{length, get_or, take, drop, set, replicate, length-set, length-map, length-drop, length-append}
use lib.Seq.{get_or-set_same, get_or-set_other, set-get_or, drop-drop, take_all}
use borrow.Author.Tests.{eq-eqb, ne_eqb}
use Rattle.std.specs.Prelude.{if◌then◌else◌}
use Rattle.ranks.specs.Lists.{map_with_index}
use Rattle.ranks.specs.Position.{Position}
use Rattle.ranks.specs.Table.{slice, byte, records, spliced, position_in, put_position, moved}
use Rattle.ranks.proofs.Tests.{same?}
use Rattle.ranks.proofs.Lists.{at-mapped, length-mapped, is_mapped}
use Rattle.ranks.proofs.Table.{length-records, at_records, length-slice, before, records-put, drop-take, spliced-take, spliced-drop}
use Rattle.octets.specs.LittleEndian.{byte_values, to_little_endian}
use Rattle.records.specs.Layout.{capacity, buffer_count, buffer_width, buffer_position, buffer_data, pool_size, task_count, task_width, task_position, task_data, tasks_size}
use Rattle.records.specs.Records.{Task, free_buffer, fresh_task}
use Rattle.records.specs.Bytes.{decode_buffer, encode_buffer, decode_task, decode_pool, decode_tasks}
use Rattle.records.specs.Changes.{at_index, move_buffer, move_task, overwrite_front, message_buffer, with_message}
use Rattle.records.specs.TaskHeads.{head_of, with_head, message_head}
use Rattle.octets.proofs.NumberBytes.{from-to-little-endian, all_two, slice-lent}
use Rattle.records.proofs.DecodeEncode.{BufferEncodable}
use Rattle.records.proofs.Access
use Rattle.records.proofs.Access.{at_map}
use Rattle.records.specs.declared.task.TaskHead.{TaskHead}

-- ---- One record of a table

-- a record changed, said of each record
pub set-each : {A : Type 0} (l : List A) (i : ℕ) (f : A → A) (d : A) → i < length l → set l i (f (get_or l i d)) ≡ map_with_index (at_index i f) l
set-each l i f d h = is_mapped (at_index i f) l (set l i (f (get_or l i d))) d d (length-set l i (f (get_or l i d))) same
  where
    same : (j : ℕ) → j < length l → get_or (set l i (f (get_or l i d))) j d ≡ at_index i f j (get_or l j d)
    same j lt =
        ⊎_elim
        (λ (e : j ≡ i). rw (e, eq-eqb i i refl) (get_or-set_same l i (f (get_or l i d)) d h))
        (λ ne. rw (ne_eqb j i ne) (get_or-set_other l i j (f (get_or l i d)) d ne)) (same? j i)

map-set : {A B : Type 0} (f : A → B) (l : List A) (i : ℕ) (a : A) → map f (set l i a) ≡ set (map f l) i (f a)
map-set f [] i a = refl
map-set f (x ∷ l) zero a = refl
map-set f (x ∷ l) (suc i) a = ap (λ (t : List _). f x ∷ t) (map-set f l i a)

pub length-decoded : {A : Type 0} (read : List ℕ → A) (k n : ℕ) (t : List ℕ) → length (map read (records k n t)) ≡ k
length-decoded read k n t = length-map (records k n t) read ∙ length-records k n t

module _ {A : Type 0} (read : List ℕ → A) (k n : ℕ) (t : List ℕ) (i : ℕ) (hi : i < k) (d : A) where
  pub length-table : length (map read (records k n t)) ≡ k
  length-table = length-decoded read k n t

  pub at_table : get_or (map read (records k n t)) i d ≡ read (slice (i * n) n t)
  at_table = Access.at_table read k n t i hi d

  -- the record as the borrow checker says it where it is lent
  pub at-lent : get_or (map read (records k n t)) i d ≡ read (take (i * n + n - i * n) (drop (i * n) t))
  at-lent = at_table ∙ ap read (sym (slice-lent t (i * n) n))

  -- record i is written over with bytes that read as `f` of it
  pub table-put : (r : List ℕ) (f : A → A) → length r ≡ n → i * n + n ≤ length t → read r ≡ f (read (slice (i * n) n t))
      → map read (records k n (spliced t (i * n) r)) ≡ map_with_index (at_index i f) (map read (records k n t))
  table-put r f e h same =
      ap (map read) (records-put k n t r i e hi h) ∙ map-set read (records k n t) i r
      ∙ ap (set (map read (records k n t)) i) (same ∙ ap f (sym at_table)) ∙ set-each (map read (records k n t)) i f d (omega (arith, length-table))

  abbrev at : A
  at = read (slice (i * n) n t)

  -- two changes that agree on record i
  pub changed-as : (f g : A → A) → f at ≡ g at → map_with_index (at_index i f) (map read (records k n t)) ≡ map_with_index (at_index i g) (map read (records k n t))
  changed-as f g same =
      let l : List A = map read (records k n t) in
      let h : i < length l = omega (arith, length-table) in
      sym (set-each l i f d h) ∙ ap (set l i) (ap f at_table ∙ same ∙ ap g (sym at_table)) ∙ set-each l i g d h

  -- a change that leaves record i as it is
  pub unchanged : (f : A → A) → f at ≡ at → map read (records k n t) ≡ map_with_index (at_index i f) (map read (records k n t))
  unchanged f same =
      let l : List A = map read (records k n t) in
      let h : i < length l = omega (arith, length-table) in
      sym (set-get_or l i d) ∙ ap (set l i) (at_table ∙ sym same ∙ ap f (sym at_table)) ∙ set-each l i f d h

  -- `f` is done to record i where it passes a test
  pub changed-if-passes : (test : A → Bool) (f : A → A) → test at ≡ true
      → map_with_index (at_index i f) (map read (records k n t)) ≡ map_with_index (at_index i (λ a. if test a then f a else a)) (map read (records k n t))
  changed-if-passes test f e = changed-as f (λ a. if test a then f a else a) (rw e)

  pub unchanged-if-fails : (test : A → Bool) (f : A → A) → test at ≡ false
      → map read (records k n t) ≡ map_with_index (at_index i (λ a. if test a then f a else a)) (map read (records k n t))
  unchanged-if-fails test f e = unchanged (λ a. if test a then f a else a) (rw e)

-- record i is written over with bytes that read as `x`
pub table-written : {A : Type 0} (read : List ℕ → A) (k n : ℕ) (t u r : List ℕ) (i : ℕ) (x : A) → i < k → length t ≡ k * n → length r ≡ n → read r ≡ x
    → u ≡ spliced t (i * n) r → map read (records k n u) ≡ map_with_index (at_index i (λ _. x)) (map read (records k n t))
table-written read k n t u r i x h l e same w =
    ap (λ (v : List ℕ). map read (records k n v)) w ∙ table-put read k n t i h x r (λ _. x) e (omega (arith, before n i k h)) same

-- ---- A rank step, said of the records

map_each : {A B : Type 0} (f : A → B) (g : ℕ → A → A) (h : ℕ → B → B) (l : List A) (a : A) (b : B)
    → ((i : ℕ) → i < length l → f (g i (get_or l i a)) ≡ h i (f (get_or l i a))) → map f (map_with_index g l) ≡ map_with_index h (map f l)
map_each f g h l a b same =
    is_mapped h (map f l) (map f (map_with_index g l)) b b (length-map (map_with_index g l) f ∙ length-mapped g l ∙ sym (length-map l f))
    (λ i lt.
    let lt₁ : i < length l = omega (arith, length-map l f) in
    at_map f (map_with_index g l) i a b (omega (arith, length-mapped g l)) ∙ ap f (at-mapped g l i a a lt₁) ∙ same i lt₁ ∙ ap (h i) (sym (at_map f l i a b lt₁)))

module _ {A : Type 0} (read : List ℕ → A) (pos : A → Position) (place : Position → A → A) (k n a : ℕ) (d : A)
    (at_place : (r : List ℕ) → length r ≡ n → (p : Position) → read (put_position a p r) ≡ place p (read r))
    (at-pos : (r : List ℕ) → position_in a r ≡ pos (read r)) where
  pub table-moved : (F : ℕ → Position → Position) (t u : List ℕ) → length t ≡ k * n → records k n u ≡ map_with_index (moved a F) (records k n t)
      → map read (records k n u) ≡ map_with_index (λ j x. place (F j (pos x)) x) (map read (records k n t))
  unfolding moved
  table-moved F t u h e =
      ap (map read) e
      ∙ map_each read (moved a F) (λ j x. place (F j (pos x)) x) (records k n t) [] d
      (λ i lt.
      let hi : i < k = omega (arith, length-records k n t) in
      let r : List ℕ = get_or (records k n t) i [] in
      let l : length r ≡ n = ap length (at_records k n t i hi) ∙ length-slice (i * n) n t (omega (arith, before n i k hi)) in
      at_place r l (F i (position_in a r)) ∙ ap (λ (p : Position). place (F i p) (read r)) (at-pos r))

buffer_placed : (r : List ℕ) → length r ≡ buffer_width → (p : Position) → decode_buffer (put_position buffer_position p r) ≡ move_buffer p (decode_buffer r)
unfolding decode_buffer slice
buffer_placed [] e p = absurd (omega arith)
buffer_placed (x ∷ []) e p = absurd (omega arith)
buffer_placed (x ∷ y ∷ r) e p = refl

task-placed : (r : List ℕ) → length r ≡ task_width → (p : Position) → decode_task (put_position task_position p r) ≡ move_task p (decode_task r)
unfolding decode_task slice
task-placed [] e p = absurd (omega arith)
task-placed (x ∷ []) e p = absurd (omega arith)
task-placed (x ∷ y ∷ []) e p = absurd (omega arith)
task-placed (x ∷ y ∷ z ∷ r) e p = refl

pub pool-moved : (F : ℕ → Position → Position) (t u : List ℕ) → length t ≡ pool_size → records buffer_count buffer_width u ≡ map_with_index (moved buffer_position F) (records buffer_count buffer_width t)
    → decode_pool u ≡ map_with_index (λ j m. move_buffer (F j m.position) m) (decode_pool t)
unfolding decode_buffer
pool-moved = table-moved decode_buffer (λ m. m.position) move_buffer buffer_count buffer_width buffer_position free_buffer buffer_placed (λ r. refl)

pub tasks-moved : (F : ℕ → Position → Position) (t u : List ℕ) → length t ≡ tasks_size → records task_count task_width u ≡ map_with_index (moved task_position F) (records task_count task_width t)
    → decode_tasks u ≡ map_with_index (λ j w. move_task (F j w.position) w) (decode_tasks t)
unfolding decode_task
tasks-moved = table-moved decode_task (λ w. w.position) move_task task_count task_width task_position (fresh_task 1) task-placed (λ r. refl)

-- ---- A message in a buffer, and in a task's record

pub message-record : (p : Position) (m : List ℕ) → spliced (set (set (set (replicate buffer_width 0) 0 p.queue) 1 p.rank) 2 (length m)) buffer_data m ≡ encode_buffer (message_buffer p m)
unfolding spliced encode_buffer
message-record p m =
    ap (λ (l : List ℕ). p.queue ∷ p.rank ∷ length m ∷ 0 ∷ 0 ∷ 0 ∷ 0 ∷ 0 ∷ (m ++ l))
    (sym (drop-drop (length m) buffer_data (set (set (set (replicate buffer_width 0) 0 p.queue) 1 p.rank) 2 (length m))))

module _ (r m : List ℕ) (long : length r ≡ task_width) (short : length m ≤ capacity) where
  -- the bytes before the receive buffer stay
  kept : slice 12 4 (spliced r task_data m) ≡ slice 12 4 r
  unfolding slice
  kept = sym (drop-take 12 4 (spliced r task_data m)) ∙ ap (drop 12) (spliced-take task_data 0 r m (omega arith)) ∙ drop-take 12 4 r

  put : slice task_data capacity (spliced r task_data m) ≡ overwrite_front m (slice task_data capacity r)
  unfolding slice spliced
  put =
      let back : List ℕ = drop task_data r in
      let e : length back ≡ capacity = omega (arith, length-drop task_data r) in
      ap (take capacity) (spliced-drop task_data 0 r m (omega arith) ∙ ap (λ (n : ℕ). m ++ drop n back) (zero-add (length m)))
      ∙ take_all capacity (m ++ drop (length m) back) (omega (arith, length-append m (drop (length m) back), length-drop (length m) back))
      ∙ ap (λ (l : List ℕ). m ++ drop (length m) l) (sym (take_all capacity back (omega arith)))

  -- a message put into the record, and then the head that says so
  pub task-delivered : {u : List ℕ} {h made : TaskHead} {w : Task} → h ≡ head_of (decode_task r) → made ≡ message_head (length m) h → u ≡ spliced r task_data m
      → w ≡ with_head made (decode_task u) → w ≡ with_message m (decode_task r)
  unfolding decode_task
  task-delivered read makes copied written =
      written ∙ ap₂ with_head (makes ∙ ap (message_head (length m)) read) (ap decode_task copied)
      ∙ rw (kept, put)

-- a part lent and handed back, as the borrow checker says it
pub slice_back : (t r : List ℕ) (a e : ℕ) → a ≤ e → length r ≡ e - a → take a t ++ (r ++ drop (e - a) (drop a t)) ≡ spliced t a r
unfolding spliced
slice_back t r a e h l =
    sym (append_assoc (take a t) r (drop (e - a) (drop a t)))
    ∙ ap (λ (x : List ℕ). take a t ++ r ++ x) (drop-drop (e - a) a t ∙ ap (λ (n : ℕ). drop n t) (let q : a + (e - a) ≡ a + length r = omega arith in q))

-- record i lent to code that does `f` to it
pub record-lent : {A : Type 0} (read : List ℕ → A) (k n : ℕ) (d : A) (t r : List ℕ) (i : ℕ) (f : A → A) → length t ≡ k * n → i < k → length r ≡ length (take (i * n + n - i * n) (drop (i * n) t))
    → read r ≡ f (read (take (i * n + n - i * n) (drop (i * n) t)))
    → map read (records k n (take (i * n) t ++ (r ++ drop (i * n + n - i * n) (drop (i * n) t)))) ≡ map_with_index (at_index i f) (map read (records k n t))
record-lent read k n d t r i f l h e same =
    let inside : i * n + n ≤ length t = omega (arith, before n i k h) in
    let at = slice-lent t (i * n) n in
    let long : length r ≡ n = e ∙ ap length at ∙ length-slice (i * n) n t inside in
    ap (λ (u : List ℕ). map read (records k n u)) (slice_back t r (i * n) (i * n + n) (omega arith) (omega arith))
    ∙ table-put read k n t i h d r f long inside (same ∙ ap (λ (x : List ℕ). f (read x)) at)

-- record i lent and filled with one number
pub record-filled : (k n : ℕ) (t r : List ℕ) (i v : ℕ) → length t ≡ k * n → i < k → r ≡ replicate (length (take (i * n + n - i * n) (drop (i * n) t))) v → r ≡ replicate n v
record-filled k n t r i v l h e =
    e ∙ ap (λ (m : ℕ). replicate m v) (ap length (slice-lent t (i * n) n) ∙ length-slice (i * n) n t (omega (arith, before n i k h)))

-- a buffer that holds a message has as many bytes as a buffer has
pub message-fits : (p : Position) (m : List ℕ) → length m ≤ capacity → BufferEncodable (message_buffer p m)
message-fits p m h =
    let z : List ℕ = replicate capacity 0 in
    record { reserved = refl; bytes = omega (arith, length-append m (drop (length m) z), length-drop (length m) z) }

pub zeros-free : decode_buffer (replicate buffer_width 0) ≡ free_buffer
unfolding decode_buffer slice
zeros-free = refl

-- ---- A task's head

-- the bytes of a head, with those of its ticks
abbrev pub head_bytes : TaskHead → (ticks : List ℕ) → List ℕ
head_bytes h ticks =
    h.state ∷ h.queue ∷ h.rank ∷ h.priority ∷ h.status ∷ h.message_length ∷ byte 0 h.reserved ∷ byte 1 h.reserved
    ∷ byte 0 ticks ∷ byte 1 ticks ∷ byte 2 ticks ∷ byte 3 ticks ∷ []

pub head-written : (h : TaskHead) (ticks r : List ℕ) → length h.reserved ≡ 2 → (ticks ≡ to_little_endian 4 h.ticks_left) × (h.ticks_left < byte_values ^ 4)
    → decode_task (spliced r 0 (head_bytes h ticks)) ≡ with_head h (decode_task r)
unfolding decode_task spliced slice to_little_endian
head-written h ticks r two-long (e, fits) =
    rw (← all_two h.reserved two-long, e, from-to-little-endian 4 h.ticks_left fits, drop-drop 4 12 r)
