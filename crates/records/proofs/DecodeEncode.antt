-- A record is the record of its bytes, if its fields fit. Assumes nothing.
use Prim.Native.Nat.{ℕ, zero, suc, ◌+◌, ◌*◌, ◌<◌}
use native.Mathlib.Omega.{arith}
use native.Mathlib.Nat.{not-suc-le-zero}
use mathlib.Core.Path.{◌≡◌, refl, ap, ap₂, ◌∙◌, subst}
use mathlib.Core.List.{List, [], ◌∷◌, ◌++◌, map, flatten, append_assoc}
use lib.ListN.{length, get_or, take, drop, length-append}
use lib.Seq.{take_all, take_at, drop_at, drop-append-add}
use Rattle.octets.specs.LittleEndian.{to_little_endian}
use Rattle.records.specs.Layout.{capacity, queue_width, buffer_width, task_width}
use Rattle.records.specs.Records.{Queue, Buffer, Task}
use Rattle.records.specs.Bytes.{decode_queue, encode_queue, decode_buffer, encode_buffer, decode_task, encode_task}
use Rattle.ranks.specs.Table.{slice, records}
use Rattle.octets.proofs.NumberBytes.{length-little-endian, from-to-little-endian}

-- ---- Records

pub record QueueEncodable (q : Queue) : Type 0 where
  pub generation : q.generation < 65536
  pub name : q.name < 4294967296
  pub reserved : length q.reserved ≡ 4

pub record BufferEncodable (m : Buffer) : Type 0 where
  pub reserved : length m.reserved ≡ 5
  pub bytes : length m.bytes ≡ capacity

pub record TaskEncodable (w : Task) : Type 0 where
  pub reserved : length w.reserved ≡ 2
  pub ticks_left : w.ticks_left < 4294967296
  pub reserved_after : length w.reserved_after ≡ 4
  pub receive_buffer : length w.receive_buffer ≡ capacity

pub length-queue : (q : Queue) → QueueEncodable q → length (encode_queue q) ≡ queue_width
unfolding encode_queue to_little_endian
length-queue q f = let e = f.reserved in omega arith

pub length-buffer : (m : Buffer) → BufferEncodable m → length (encode_buffer m) ≡ buffer_width
unfolding encode_buffer
length-buffer m f =
    let e = f.reserved in
    let d = f.bytes in
    let l = length-append m.reserved m.bytes in
    omega arith

pub length-task : (w : Task) → TaskEncodable w → length (encode_task w) ≡ task_width
unfolding encode_task
length-task w f =
    let a = f.reserved in
    let b = f.reserved_after in
    let c = f.receive_buffer in
    let d = length-little-endian 4 w.ticks_left in
    let l₁ = length-append (w.reserved ++ to_little_endian 4 w.ticks_left ++ w.reserved_after) w.receive_buffer in
    let l₂ = length-append (w.reserved ++ to_little_endian 4 w.ticks_left) w.reserved_after in
    let l₃ = length-append w.reserved (to_little_endian 4 w.ticks_left) in
    omega arith

-- ---- The bytes by what follows each field

pub queue-fields : (q : Queue) → encode_queue q
    ≡ q.live ∷ q.attributes ∷ q.limit ∷ q.max_size ∷ to_little_endian 2 q.generation ++ (q.pending ∷ q.waiters ∷ to_little_endian 4 q.name ++ q.reserved)
unfolding encode_queue to_little_endian
queue-fields q = refl

pub task-fields : (w : Task) → encode_task w
    ≡ w.state ∷ w.position.queue ∷ w.position.rank ∷ w.priority ∷ w.status ∷ w.message_length
    ∷ w.reserved ++ (to_little_endian 4 w.ticks_left ++ (w.reserved_after ++ w.receive_buffer))
unfolding encode_task
task-fields w = simp append_assoc

-- ---- Reading what was written

pub decode-encode-queue : (q : Queue) → QueueEncodable q → decode_queue (encode_queue q) ≡ q
unfolding decode_queue encode_queue slice to_little_endian
decode-encode-queue q f =
    rw (from-to-little-endian 2 q.generation f.generation, from-to-little-endian 4 q.name f.name, take_all 4 q.reserved (omega (arith, f.reserved)))

pub decode-encode-buffer : (m : Buffer) → BufferEncodable m → decode_buffer (encode_buffer m) ≡ m
unfolding decode_buffer encode_buffer slice
decode-encode-buffer m f =
    rw (take_at m.reserved m.bytes 5 f.reserved, drop_at m.reserved m.bytes 5 f.reserved, take_all capacity m.bytes (omega (arith, f.bytes)))

-- what stands behind the first n bytes
behind : (xs ys : List ℕ) (n k : ℕ) → length xs ≡ n → drop (n + k) (xs ++ ys) ≡ drop k ys
behind xs ys n k e = subst (λ (m : ℕ). drop (m + k) (xs ++ ys) ≡ drop k ys) e (drop-append-add xs ys k)

pub decode-encode-task : (w : Task) → TaskEncodable w → decode_task (encode_task w) ≡ w
unfolding decode_task slice
decode-encode-task w f =
    rw (
      task-fields w,
      take_at w.reserved behind-two 2 f.reserved,
      drop_at w.reserved behind-two 2 f.reserved,
      take_at ticks behind-six 4 four,
      from-to-little-endian 4 w.ticks_left f.ticks_left,
      behind w.reserved behind-two 2 4 f.reserved,
      drop_at ticks behind-six 4 four,
      take_at w.reserved_after w.receive_buffer 4 f.reserved_after,
      behind w.reserved behind-two 2 8 f.reserved,
      behind ticks behind-six 4 4 four,
      drop_at w.reserved_after w.receive_buffer 4 f.reserved_after,
      take_all capacity w.receive_buffer (omega (arith, f.receive_buffer)),
    )
  where
    ticks : List ℕ
    ticks = to_little_endian 4 w.ticks_left

    behind-six : List ℕ
    behind-six = w.reserved_after ++ w.receive_buffer

    behind-two : List ℕ
    behind-two = ticks ++ behind-six

    four : length ticks ≡ 4
    four = length-little-endian 4 w.ticks_left

-- ---- Tables

-- each record of a list has n bytes
abbrev pub Each : {A : Type 0} → (A → Type 0) → List A → Type 0
Each P [] = Unit {0}
Each P (a ∷ l) = P a × Each P l

pub each_of : {A : Type 0} (P : A → Type 0) (l : List A) (a : A) → ((i : ℕ) → i < length l → P (get_or l i a)) → Each P l
each_of P [] a h = tt
each_of P (b ∷ l) a h = (h 0 (omega arith), each_of P l a (λ i lt. h (suc i) (omega arith)))

module _ {A : Type 0} (write : A → List ℕ) (read : List ℕ → A) (n : ℕ) (Fit : A → Type 0) (size : (a : A) → Fit a → length (write a) ≡ n)
    (back : (a : A) → Fit a → read (write a) ≡ a) where
  pub decode-encode-records : (l : List A) → Each Fit l → map read (records (length l) n (flatten (map write l))) ≡ l
  unfolding records flatten
  decode-encode-records [] h = refl
  decode-encode-records (a ∷ l) (f, fs) =
      ap₂ {C = List A} (λ (x : A) (r : List A). x ∷ r) (ap read (take_at (write a) _ n (size a f)) ∙ back a f)
      (ap (λ (b : List ℕ). map read (records (length l) n b)) (drop_at (write a) _ n (size a f)) ∙ decode-encode-records l fs)

  pub length-records : (l : List A) → Each Fit l → length (flatten (map write l)) ≡ length l * n
  unfolding flatten
  length-records [] h = omega arith
  length-records (a ∷ l) (f, fs) =
      let ih : length (flatten (map write l)) ≡ length l * n = length-records l fs in
      let e = length-append (write a) (flatten (map write l)) in
      let z = size a f in
      omega arith

  pub record-at : (l : List A) → Each Fit l → (i : ℕ) (d : A) → i < length l → slice (i * n) n (flatten (map write l)) ≡ write (get_or l i d)
  unfolding flatten slice
  record-at [] h i d lt = absurd (not-suc-le-zero lt)
  record-at (a ∷ l) (f, fs) zero d lt =
      ap (λ (k : ℕ). take n (drop k (write a ++ flatten (map write l)))) (let e : 0 * n ≡ 0 = omega arith in e) ∙ take_at (write a) _ n (size a f)
  record-at (a ∷ l) (f, fs) (suc i) d lt =
      ap (take n)
      (ap (λ (k : ℕ). drop k (write a ++ flatten (map write l))) (let e : suc i * n ≡ length (write a) + i * n = let z = size a f in omega arith in e)
      ∙ drop-append-add (write a) (flatten (map write l)) (i * n))
      ∙ record-at l fs i d (omega arith)
