-- A message received, and where a caller waits, leave sound tables. Assumes nothing.
use Prim.Native.Nat.{ℕ, suc, ◌-◌, ◌≤◌, ◌<◌}
use native.Mathlib.Omega.{arith}
use mathlib.Core.Path.{◌≡◌, refl, sym, ap, ◌∙◌, subst}
use mathlib.Core.Bool.{Bool, true, false, ◌&&◌}
use mathlib.Core.Logic.{inl, inr, ⊎_elim}
use mathlib.Core.List.{List}
use lib.Dec.{eqb, ltb}
use lib.ListN.{length, get_or, take, length-take}
use borrow.Author.Tests.{eqb-true, eqb-false, eq-eqb, ltb-true, ltb-false}
use Rattle.std.specs.Prelude.{if◌then◌else◌}
use Rattle.ranks.specs.Lists.{map_with_index, minimum}
use Rattle.records.specs.Layout.{capacity, slot_count, buffer_count, task_count}
use Rattle.ranks.specs.Position.{Position, in_queue}
use Rattle.records.specs.Records.{Queue, Buffer, Task, State, queue_at, buffer_at, task_at, free_buffer, fresh_task, has_priority, is_waiting, waiting_state}
use Rattle.ranks.specs.Steps.{taken_out}
use Rattle.specification.specs.Sound.{sound_buffer, sound_task}
use Rattle.specification.specs.Lookup.{first_message}
use Rattle.specification.specs.Receive.{received, wait_rank}
use Rattle.records.specs.Changes.{at_index, with_message, move_buffer, with_pending}
use Rattle.ranks.proofs.Lists.{at-mapped, length-mapped, minimum-bound, minimum-at, minimum-is}
use Rattle.ranks.proofs.Tests.{same?}
use Rattle.specification.proofs.Rules.{size-at-most, Live, Ready, live-sound, buffer-rules, task-rules, ready-sound}
use Rattle.ranks.proofs.Found.{found-stands, none_first}
use Rattle.ranks.proofs.Ranks.{Ranked, frame, out-itself, out-moved, take-out-all}
use Rattle.specification.proofs.SoundFacts.{Sized, SoundFacts, Ordered, buffers-ranked}
use Rattle.theorems.proofs.ListSteps.{stepped-at, stepped-changed}
use Rattle.theorems.proofs.KeptQueues.{ordered-kept, if-at, moved-buffer, at_here, at_other, at_both, live-pending, live_of, Kept, task-kept, same-but-counts}
use Rattle.theorems.proofs.SoundCleared.{free-sound'}
use Rattle.theorems.proofs.SoundSubmit.{with_message-ready}
use Rattle.theorems.proofs.CountChange
use Rattle.theorems.proofs.CountChange.{QueueChanged}

-- a task that does not wait is ready
pub is-ready : (s : State) → SoundFacts s → (t : ℕ) → t < task_count → is_waiting (task_at s t) ≡ false → Ready (task_at s t)
is-ready s g t h e =
    ⊎_elim (λ r. r) (λ w. absurd (eqb-false (task_at s t).state waiting_state e w.state)) (task-rules s t _ (g.task t h))

-- ---- A ready task's record changed

module _ (s s' : State) (g : SoundFacts s) (t : ℕ) (t< : t < task_count) (rdy : Ready (task_at s t)) (f : Task → Task) (rdy' : Ready (f (task_at s t)))
    (e : s'.tasks ≡ map_with_index (at_index t f) s.tasks) (kept : Kept s s') (same-waiters : (i : ℕ) → i < slot_count → (queue_at s' i).waiters ≡ (queue_at s i).waiters) where
  task-after : (j : ℕ) → j < task_count → task_at s' j ≡ at_index t f j (task_at s j)
  task-after j h = rw e (at-mapped (at_index t f) s.tasks j (fresh_task 1) (fresh_task 1) (omega (arith, g.sized.tasks)))

  task-here : task_at s' t ≡ f (task_at s t)
  task-here = task-after t t< ∙ at_here t f _

  task-other : (j : ℕ) → j < task_count → (j ≡ t → ⊥) → task_at s' j ≡ task_at s j
  task-other j h ne = task-after j h ∙ at_other t f j _ ne

  -- one in a queue, before or afterwards, is another task
  not-before : (j i : ℕ) → (task_at s j).position.queue ≡ suc i → j ≡ t → ⊥
  not-before j i q z = let a = ap (λ (k : ℕ). (task_at s k).position.queue) z in let b = rdy.queue in omega arith

  not_after : (j i : ℕ) → (task_at s' j).position.queue ≡ suc i → j ≡ t → ⊥
  not_after j i q z =
      let a = ap (λ (k : ℕ). (task_at s' k).position.queue) z in
      let c = ap (λ (w : Task). w.position.queue) task-here in
      let b = rdy'.queue in
      omega arith

  pub changed-waiters : (i : ℕ) → i < slot_count → Ranked task_count (λ j. (task_at s' j).position) i (queue_at s' i).waiters
  changed-waiters i h =
      subst (λ (n : ℕ). Ranked task_count (λ j. (task_at s' j).position) i n) (sym (same-waiters i h))
      (frame task_count (λ j. (task_at s j).position) (λ j. (task_at s' j).position) i _
      (λ j hj q. ap (λ (w : Task). w.position) (task-other j hj (not-before j i q)))
      (λ j hj q. sym (ap (λ (w : Task). w.position.queue) (task-other j hj (not_after j i q))) ∙ q) (g.waiters i h))

  pub changed-order : (i : ℕ) → Ordered s i → Ordered s' i
  changed-order i o = ordered-kept s s' i (λ j h q. task-other j h (not_after j i q)) o

  pub changed-task : (j : ℕ) → j < task_count → sound_task s' j (task_at s' j) ≡ true
  changed-task j h =
      subst (λ (w : Task). sound_task s' j w ≡ true) (sym (task-after j h))
      (at_both (λ k w. sound_task s' k w ≡ true) t f j (task_at s j)
      (λ z. subst (λ (k : ℕ). sound_task s' k (f (task_at s k)) ≡ true) (sym z) (ready-sound s' t _ rdy'))
      (λ _. task-kept s s' j _ kept (g.task j h)))

-- ---- A message received

-- the first message stands at rank 0
pub first_holds : (s : State) → Sized s → (slot : ℕ) → first_message s slot < buffer_count
    → ((buffer_at s (first_message s slot)).position.queue ≡ suc slot) × ((buffer_at s (first_message s slot)).position.rank ≡ 0)
unfolding first_message
first_holds s z slot h = found-stands (λ m. m.position) slot 0 s.pool free_buffer (omega (arith, z.pool))

-- with no first message there is none
pub none-held : (s : State) → SoundFacts s → (slot : ℕ) → slot < slot_count → buffer_count ≤ first_message s slot → (queue_at s slot).pending ≡ 0
unfolding first_message
none-held s g slot slot< h = none_first (λ m. m.position) slot _ s.pool free_buffer buffer_count g.sized.pool (g.messages slot slot<) h

module _ (s : State) (g : SoundFacts s) (caller slot b : ℕ) (caller< : caller < task_count) (slot< : slot < slot_count) (b< : b < buffer_count) (rdy : Ready (task_at s caller))
    (q : (buffer_at s b).position.queue ≡ suc slot) (r : (buffer_at s b).position.rank ≡ 0) where
  abbrev s' : State
  s' = (received s caller slot b).after

  abbrev less : Queue → Queue
  less q = with_pending (q.pending - 1) q

  abbrev P : ℕ → Position
  P j = (buffer_at s j).position

  abbrev message : List ℕ
  message = take (buffer_at s b).message_length (buffer_at s b).bytes

  sized' : Sized s'
  unfolding received
  sized' =
      record {
        queues = length-mapped _ s.queues ∙ g.sized.queues;
        pool = length-mapped _ s.pool ∙ g.sized.pool;
        tasks = length-mapped _ s.tasks ∙ g.sized.tasks;
      }

  change : QueueChanged s s' slot less
  unfolding received
  change = record { facts = g; sized = sized'; inside = slot<; queues = refl }

  tasks' : s'.tasks ≡ map_with_index (at_index caller (with_message message)) s.tasks
  unfolding received
  tasks' = refl

  buffer-after : (j : ℕ) → j < buffer_count → buffer_at s' j ≡ (if eqb j b then free_buffer else move_buffer (taken_out b slot 0 j (P j)) (buffer_at s j))
  unfolding received
  buffer-after = stepped-at (buffers-ranked s g slot slot<) move_buffer b (λ _. free_buffer) (taken_out b slot 0)

  position-after : (j : ℕ) → j < buffer_count → (buffer_at s' j).position ≡ taken_out b slot (P b).rank j (P j)
  unfolding received
  position-after j h =
      subst (λ (k : ℕ). (buffer_at s' j).position ≡ taken_out b slot k j (P j)) (sym r)
      (stepped-changed (buffers-ranked s g slot slot<) move_buffer b (λ _. free_buffer) (taken_out b slot 0) (λ p m. refl) (λ m. sym (out-itself b slot 0 m.position)) j h)

  has : 1 ≤ (queue_at s slot).pending
  has = let h = (g.messages slot slot<).below b b< q in omega arith

  live : Live (queue_at s slot)
  live = live_of _ (g.queue slot slot<) (inl has)

  kept : Kept s s'
  kept = CountChange.kept change (same-but-counts _ _ _)

  here : queue_at s' slot ≡ less (queue_at s slot)
  here = CountChange.here change

  short : length message ≤ capacity
  short =
      ⊎_elim (λ u. absurd (let e = u.queue in omega arith))
      (λ u.
      let e : u.slot ≡ slot = let a = u.queue in omega arith in
      let m : (buffer_at s b).message_length ≤ (queue_at s slot).max_size = subst (λ (k : ℕ). (buffer_at s b).message_length ≤ (queue_at s k).max_size) e (size-at-most _ _ u.size) in
      let l = live.size-high in
      let n = length-take (buffer_at s b).message_length (buffer_at s b).bytes in
      omega arith)
      (buffer-rules s b _ (g.buffer b b<))

  buffer' : (j : ℕ) → j < buffer_count → sound_buffer s' j (buffer_at s' j) ≡ true
  buffer' j h =
      subst (λ (m : Buffer). sound_buffer s' j m ≡ true) (sym (buffer-after j h))
      (if-at (λ m. sound_buffer s' j m ≡ true) j b free_buffer _ (λ _. free-sound' s' j)
      (λ ne. moved-buffer s s' j (buffer_at s j) _ kept (out-moved b slot 0 j (P j) ne) (g.buffer j h)))

  pub received-sound : SoundFacts (received s caller slot b).after
  received-sound =
      CountChange.counted change (same-but-counts _ _ _)
      (live-sound _
      (live-pending _ _ (let h = live.pending in omega arith) (inr (⊎_elim (λ e. absurd (let h = has in omega arith)) (λ e. e) live.either)) live))
      buffer'
      (take-out-all buffer_count slot_count P (λ j. (buffer_at s' j).position) (λ i. (queue_at s i).pending) (λ i. (queue_at s' i).pending) slot g.messages
      (λ i h ne. ap (λ (q : Queue). q.pending) (CountChange.other change i h ne))
      b b< slot< q (ap (λ (q : Queue). q.pending) here) position-after)
      (changed-waiters s s' g caller caller< rdy (with_message message) rdy' tasks' kept waiters')
      (λ i h p. changed-order s s' g caller caller< rdy (with_message message) rdy' tasks' kept waiters' i (g.order i h p))
      (changed-task s s' g caller caller< rdy (with_message message) rdy' tasks' kept waiters')
    where
      rdy' : Ready (with_message message (task_at s caller))
      rdy' = with_message-ready s g caller caller< message short

      waiters' : (i : ℕ) → i < slot_count → (queue_at s' i).waiters ≡ (queue_at s i).waiters
      waiters' = CountChange.of-each change (λ i q. q.waiters ≡ (queue_at s i).waiters) refl (λ i h. refl)

-- ---- A caller that waits

-- the rank is behind all of equal or smaller number and before the others
module _ (s : State) (g : SoundFacts s) (caller slot : ℕ) (slot< : slot < slot_count) where
  abbrev ranks : ℕ → Task → ℕ
  ranks j w = if in_queue slot w.position && ltb (task_at s caller).priority w.priority then w.position.rank else (queue_at s slot).waiters

  pub wait_rank-bound : wait_rank s caller slot ≤ (queue_at s slot).waiters
  unfolding wait_rank
  wait_rank-bound = go (has_priority (queue_at s slot))
    where
      go : (b : Bool) → (if b then minimum (queue_at s slot).waiters (map_with_index ranks s.tasks) else (queue_at s slot).waiters) ≤ (queue_at s slot).waiters
      go true = minimum-bound _ _
      go false = omega arith

  at-ranks : (j : ℕ) → j < task_count → get_or (map_with_index ranks s.tasks) j 0 ≡ ranks j (task_at s j)
  at-ranks j h = at-mapped ranks s.tasks j (fresh_task 1) 0 (omega (arith, g.sized.tasks))

  by-least : has_priority (queue_at s slot) ≡ true → wait_rank s caller slot ≡ minimum (queue_at s slot).waiters (map_with_index ranks s.tasks)
  unfolding wait_rank
  by-least p = rw p

  pub ahead_of : has_priority (queue_at s slot) ≡ true → (a : ℕ) → a < task_count → (task_at s a).position.queue ≡ suc slot
      → (task_at s a).position.rank < wait_rank s caller slot → (task_at s a).priority ≤ (task_at s caller).priority
  ahead_of p a ha qa lt = go (ltb (task_at s caller).priority (task_at s a).priority) refl
    where
      go : (b : Bool) → ltb (task_at s caller).priority (task_at s a).priority ≡ b → (task_at s a).priority ≤ (task_at s caller).priority
      go false e = ltb-false _ _ e
      go true e =
          let h : a < length (map_with_index ranks s.tasks) = let n = length-mapped ranks s.tasks in let k = g.sized.tasks in omega arith in
          let le = minimum-at (queue_at s slot).waiters (map_with_index ranks s.tasks) a h in
          let v : get_or (map_with_index ranks s.tasks) a 0 ≡ (task_at s a).position.rank = at-ranks a ha ∙ rw (eq-eqb _ _ qa, e) in
          let w = by-least p in
          absurd (omega arith)

  pub behind-of : has_priority (queue_at s slot) ≡ true → (b : ℕ) → b < task_count → (task_at s b).position.queue ≡ suc slot
      → wait_rank s caller slot ≤ (task_at s b).position.rank → (task_at s caller).priority < (task_at s b).priority
  behind-of p b hb qb le =
      let w = by-least p in
      let below = (g.waiters slot slot<).below b hb qb in
      let (i, hi, v) = minimum-is (queue_at s slot).waiters (map_with_index ranks s.tasks) (omega arith) in
      let hi' : i < task_count = let n = length-mapped ranks s.tasks in let k = g.sized.tasks in omega arith in
      go i hi' (sym (at-ranks i hi') ∙ v ∙ sym w) (in_queue slot (task_at s i).position) refl (ltb (task_at s caller).priority (task_at s i).priority) refl
    where
      go : (i : ℕ) → i < task_count → ranks i (task_at s i) ≡ wait_rank s caller slot → (c : Bool) → in_queue slot (task_at s i).position ≡ c
          → (d : Bool) → ltb (task_at s caller).priority (task_at s i).priority ≡ d → (task_at s caller).priority < (task_at s b).priority
      go i hi e true c true d =
          let q : (task_at s i).position.queue ≡ suc slot = eqb-true _ _ c in
          let lt : (task_at s caller).priority < (task_at s i).priority = ltb-true _ _ d in
          let rk : (task_at s i).position.rank ≡ wait_rank s caller slot = sym (rw (c, d)) ∙ e in
          ⊎_elim
          (λ (z : (task_at s i).position.rank ≡ (task_at s b).position.rank).
          let k = ap (λ (n : ℕ). (task_at s n).priority) ((g.waiters slot slot<).one i b hi hb q qb z) in
          omega arith)
          (λ (n : (task_at s i).position.rank ≡ (task_at s b).position.rank → ⊥).
          let o = g.order slot slot< p i b hi hb q qb (omega arith) in
          omega arith)
          (same? (task_at s i).position.rank (task_at s b).position.rank)
      go i hi e true c false d =
          let rk : (queue_at s slot).waiters ≡ wait_rank s caller slot = sym (rw (c, d)) ∙ e in
          let below = (g.waiters slot slot<).below b hb qb in
          absurd (omega arith)
      go i hi e false c d f =
          let rk : (queue_at s slot).waiters ≡ wait_rank s caller slot = sym (rw c) ∙ e in
          let below = (g.waiters slot slot<).below b hb qb in
          absurd (omega arith)
