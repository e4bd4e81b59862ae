-- The positions of the two tables, and what the rules of each record say of the ranks, for messages and waiters alike. Assumes nothing.
use Prim.Native.Nat.{ℕ, suc, pred, ◌+◌, ◌≤◌, ◌<◌}
use native.Mathlib.Omega.{arith}
use mathlib.Core.Path.{◌≡◌, refl, sym, ap, subst, ◌∙◌}
use mathlib.Core.Bool.{Bool, true, false, ◌&&◌, true≢false}
use mathlib.Core.Logic.{⊎_elim}
use mathlib.Core.List.{List, [], map}
use lib.Dec.{eqb}
use lib.ListN.{length, get_or, length-map}
use borrow.Author.Tests.{eqb-true, eq-eqb, lt-ltb, leb-true, ltb-true}
use Rattle.ranks.specs.Lists.{every, map_with_index}
use Rattle.ranks.specs.Position.{Position, no_queue, in_queue}
use Rattle.ranks.specs.Table.{records, position_in, Shape}
use Rattle.ranks.specs.Steps.{ranked}
use Rattle.ranks.proofs.Tests.{either, both, and, or_left, or_right}
use Rattle.ranks.proofs.Lists.{at-mapped, mapped-cong, every-at, every-from}
use Rattle.ranks.proofs.Ranked.{implied, from-ranked}
use Rattle.records.specs.Layout.{slot_count, queue_width, buffer_count, buffer_width, pool_size, task_count, task_width, tasks_size}
use Rattle.records.specs.Split.{share_of_slot, share_of_buffer}
use Rattle.records.specs.Records.{State, Buffer, queue_at, free_queue, free_buffer, fresh_task}
use Rattle.records.specs.Bytes.{decode_queue, decode_buffer, decode_pool, decode_task, decode_tasks}
use Rattle.records.proofs.Access.{at_map}
use Rattle.records.proofs.Tabled.{slot-share-below, buffers-end, share-buffers}
use Rattle.records.proofs.Writing.{length-decoded}
use Rattle.specification.specs.Sound.{sound_buffer, sound_task}
use Rattle.specification.proofs.Rules.{Unused, Used, buffer-rules, InLive, Owned, buffer-owner, task-owner}
use Rattle.soundness.specs.declared.ranked.Members.{Members}
use Rattle.soundness.specs.declared.ranked.Members.TheVariants.{Messages, Waiters}
use Rattle.soundness.specs.Parts.{only_queues, positions, pool_positions, task_positions, held, below_count, part_start, part_size, Among, queue_ranked}
use Rattle.soundness.proofs.Ranks.{length-positions}

-- ---- The positions of the decoded records

positions-decoded : {A : Type 0} (read : List ℕ → A) (pos : A → Position) (place : ℕ) (d : A) → ((r : List ℕ) → position_in place r ≡ pos (read r)) → (rs : List (List ℕ))
    → positions place rs ≡ map_with_index (λ j x. pos x) (map read rs)
positions-decoded read pos place d same rs =
    mapped-cong (λ j r. position_in place r) (λ j x. pos x) rs (map read rs) [] d no_queue (sym (length-map rs read))
    (λ i lt. same (get_or rs i []) ∙ ap pos (sym (at_map read rs i [] d lt)))

pub pool-positions : (p : List ℕ) → pool_positions p ≡ map_with_index (λ j m. m.position) (decode_pool p)
unfolding decode_buffer
pool-positions p = positions-decoded decode_buffer (λ m. m.position) 0 free_buffer (λ r. refl) (records buffer_count buffer_width p)

pub task-positions : (t : List ℕ) → task_positions t ≡ map_with_index (λ j w. w.position) (decode_tasks t)
unfolding decode_task
task-positions t = positions-decoded decode_task (λ w. w.position) 1 (fresh_task 1) (λ r. refl) (records task_count task_width t)

pub pool-shape : (p : List ℕ) → length p ≡ pool_size → Shape buffer_width 0 buffer_count (length p)
pool-shape p e = record { inside = omega arith; whole = e }

pub tasks-shape : (t : List ℕ) → length t ≡ tasks_size → Shape task_width 1 task_count (length t)
tasks-shape t e = record { inside = omega arith; whole = e }

-- ---- A table of records with positions

-- a record that is as its rules say is in no queue, or in that of a live slot
pub record Table {A : Type 0} (test : ℕ → A → Bool) (position : A → Position) (xs : List A) (d : A) (s : State) (ps : List Position) : Type 0 where
  pub queues : length s.queues ≡ slot_count
  pub same : ps ≡ map_with_index (λ j x. position x) xs
  pub size : length ps ≡ length xs
  pub owner : (j : ℕ) → test j (get_or xs j d) ≡ true → Owned s (position (get_or xs j d))

module _ {A : Type 0} {test : ℕ → A → Bool} {position : A → Position} {xs : List A} {d : A} {s : State} {ps : List Position}
    (table : Table test position xs d s ps) (members : Members) where
  abbrev tests : ℕ → A → Bool
  tests j x = test j x && below_count members s.queues (position x)

  at : (j : ℕ) → j < length xs → get_or ps j no_queue ≡ position (get_or xs j d)
  at j h = ap (λ (l : List Position). get_or l j no_queue) table.same ∙ at-mapped (λ j x. position x) xs j d no_queue h

  -- ranks that each queue has exactly once are below its count
  tests-pass : every test xs ≡ true → every (queue_ranked members ps) s.queues ≡ true → every tests xs ≡ true
  tests-pass rules ranks = every-from tests xs d (λ j h. and (every-at test xs d rules j h) (low j h))
    where
      low : (j : ℕ) → j < length xs → below_count members s.queues (position (get_or xs j d)) ≡ true
      low j h =
          ⊎_elim (λ z. or_left _ (eq-eqb _ _ z))
          (λ (w : InLive s (position (get_or xs j d))).
          let n : ℕ = held members (queue_at s w.slot) in
          let is : ranked w.slot n ps ≡ true =
          implied (every-at (queue_ranked members ps) s.queues (free_queue 0) ranks w.slot (omega (arith, table.queues, w.slot_below))) (eq-eqb _ _ w.live) in
          let lt : (get_or ps j no_queue).rank < n = (from-ranked w.slot n ps is).below j (omega (arith, table.size)) (ap (λ (p : Position). p.queue) (at j h) ∙ w.queue) in
          let lt' : (position (get_or xs j d)).rank < held members (get_or s.queues (pred (position (get_or xs j d)).queue) (free_queue 0)) =
          rw (ap pred w.queue) (subst (λ (p : Position). p.rank < n) (at j h) lt) in
          or_right (eqb (position (get_or xs j d)).queue 0) (lt-ltb _ _ lt'))
          (table.owner j (every-at test xs d rules j h))

  -- where a record fails, the table does
  pub table-fails : {r : Bool} → r ≡ every tests xs → r ≡ false → false ≡ (every test xs && every (queue_ranked members ps) s.queues)
  table-fails said e =
      ⊎_elim
      (λ t. let (a, b) = both (every test xs) (every (queue_ranked members ps) s.queues) t in absurd (true≢false (sym (tests-pass a b) ∙ sym said ∙ e)))
      (λ f. sym f) (either (every test xs && every (queue_ranked members ps) s.queues))

  -- where all pass, their own rules hold, their ranks are below the counts, and the ranks decide
  module _ {r : Bool} (said : r ≡ every tests xs) (e : r ≡ true) where
    each : (j : ℕ) → j < length xs → (test j (get_or xs j d) ≡ true) × (below_count members s.queues (position (get_or xs j d)) ≡ true)
    each j h = both _ _ (every-at tests xs d (sym said ∙ e) j h)

    pub rules-hold : every test xs ≡ true
    rules-hold = every-from test xs d (λ j h. (each j h).0)

    pub ranks-below : every (λ j p. below_count members s.queues p) ps ≡ true
    ranks-below =
        every-from (λ j p. below_count members s.queues p) ps no_queue
        (λ j h. let lt : j < length xs = omega (arith, table.size) in subst (λ (p : Position). below_count members s.queues p ≡ true) (sym (at j lt)) (each j lt).1)

    pub ranks-decide : {x : Bool} → x ≡ every (queue_ranked members ps) s.queues → x ≡ (every test xs && every (queue_ranked members ps) s.queues)
    ranks-decide h = h ∙ sym (ap (λ (b : Bool). b && every (queue_ranked members ps) s.queues) rules-hold)

-- ---- The two tables

module _ (q p : List ℕ) (e : length p ≡ pool_size) where
  size : length (decode_pool p) ≡ buffer_count
  size = length-decoded decode_buffer buffer_count buffer_width p

  pub pool-table : Table (sound_buffer (only_queues q)) (λ m. m.position) (decode_pool p) free_buffer (only_queues q) (pool_positions p)
  pool-table =
      record {
        queues = length-decoded decode_queue slot_count queue_width q;
        same = pool-positions p;
        size = length-positions (record { stride = buffer_width; place = 0; count = buffer_count }) p (pool-shape p e) ∙ sym size;
        owner = λ b e. buffer-owner (only_queues q) b (get_or (decode_pool p) b free_buffer) e;
      }

  -- the buffers of a queue are among those of its share
  module _ (sounds : every (sound_buffer (only_queues q)) (decode_pool p) ≡ true) where
    own-share : (slot j : ℕ) → j < buffer_count → in_queue slot (get_or (pool_positions p) j no_queue) ≡ true → share_of_slot slot ≡ share_of_buffer j
    own-share slot j h i =
        ⊎_elim (λ (u : Unused m). absurd (omega (arith, there, u.queue)))
        (λ (u : Used (only_queues q) j m). ap share_of_slot (let y : slot ≡ u.slot = omega (arith, there, u.queue) in y) ∙ u.share)
        (buffer-rules (only_queues q) j m (every-at (sound_buffer (only_queues q)) (decode_pool p) free_buffer sounds j (omega (arith, size))))
      where
        m : Buffer
        m = get_or (decode_pool p) j free_buffer

        there : m.position.queue ≡ suc slot
        there = sym (ap (λ (x : Position). x.queue) (at pool-table Messages j (omega (arith, size)))) ∙ eqb-true _ _ i

    in-part : (slot j : ℕ) → slot < slot_count → j < buffer_count → in_queue slot (get_or (pool_positions p) j no_queue) ≡ true
        → (part_start Messages slot ≤ j) × (j < part_start Messages slot + part_size Messages buffer_count slot)
    in-part slot j h k i =
        let (x, y) = both _ _ (share-buffers (share_of_slot slot) j (slot-share-below slot h) k ∙ eq-eqb _ _ (own-share slot j k i)) in
        (leb-true _ _ x, ltb-true _ _ y)

    pub messages-among : (slot : ℕ) → slot < slot_count → Among slot (part_start Messages slot) (part_start Messages slot + part_size Messages buffer_count slot) (pool_positions p)
    messages-among slot h =
        let l = length-positions (record { stride = buffer_width; place = 0; count = buffer_count }) p (pool-shape p e) in
        record {
          inside = omega (arith, l, buffers-end (share_of_slot slot) (slot-share-below slot h));
          start = λ j lt i. let k : j < buffer_count = omega (arith, l) in (in-part slot j h k i).0;
          stop = λ j lt i. let k : j < buffer_count = omega (arith, l) in (in-part slot j h k i).1;
        }

module _ (q t : List ℕ) (e : length t ≡ tasks_size) where
  pub tasks-table : Table (sound_task (only_queues q)) (λ w. w.position) (decode_tasks t) (fresh_task 1) (only_queues q) (task_positions t)
  tasks-table =
      record {
        queues = length-decoded decode_queue slot_count queue_width q;
        same = task-positions t;
        size = length-positions (record { stride = task_width; place = 1; count = task_count }) t (tasks-shape t e) ∙ sym (length-decoded decode_task task_count task_width t);
        owner = λ t' e. task-owner (only_queues q) t' (get_or (decode_tasks t) t' (fresh_task 1)) e;
      }

  -- the waiters of a queue are among all tasks
  pub waiters-among : (slot : ℕ) → slot < slot_count → Among slot (part_start Waiters slot) (part_start Waiters slot + part_size Waiters task_count slot) (task_positions t)
  waiters-among slot h =
      let l = length-positions (record { stride = task_width; place = 1; count = task_count }) t (tasks-shape t e) in
      record { inside = omega (arith, l); start = λ j lt i. omega arith; stop = λ j lt i. omega (arith, l) }
