-- A caller that waits, and receive, leave sound tables. Assumes nothing.
use Prim.Native.Nat.{ℕ, suc, ◌≤◌, ◌<◌}
use native.Mathlib.Omega.{arith}
use mathlib.Core.Path.{◌≡◌, refl, sym, ap, ◌∙◌, subst}
use mathlib.Core.Bool.{Bool, true, false, ◌||◌}
use mathlib.Core.Logic.{◌⊎◌, inl, inr, ⊎_elim}
use lib.Dec.{eqb}
use borrow.Author.Tests.{ne_eqb, ltb-true, ltb-false}
use Rattle.std.specs.Prelude.{if◌then◌else◌}
use Rattle.records.specs.Layout.{slot_of, slot_count, task_count, buffer_count}
use Rattle.records.specs.Split.{share_of_slot, share_of_task}
use Rattle.ranks.specs.Position.{Position, position_at}
use Rattle.records.specs.Records.{Queue, Task, State, queue_at, buffer_at, task_at, has_priority, is_open, is_waiting}
use Rattle.ranks.specs.Steps.{inserted}
use Rattle.specification.specs.Sound.{sound_task, task_rules}
use Rattle.specification.specs.Lookup.{usable, first_message, has_message}
use Rattle.specification.specs.Receive.{received, wait_rank, waiting, effect}
use Rattle.records.specs.Changes.{waiting_at, move_task, with_waiters}
use Rattle.ranks.proofs.Lists.{length-mapped, holds}
use Rattle.ranks.proofs.Tests.{same?}
use Rattle.specification.proofs.Rules.{Live, Ready, Waiting, live-sound, waiting-sound}
use Rattle.ranks.proofs.Ranks.{in_itself, in_moved, insert_all, was, insert-other, Agree, Came, before, after, came-mono}
use Rattle.specification.proofs.SoundFacts.{Sized, SoundFacts, Ordered, tasks-ranked}
use Rattle.theorems.proofs.ListSteps.{stepped-at, stepped-changed}
use Rattle.theorems.proofs.KeptQueues.{if-at, moved-task, live-waiters, live_of, Kept, waiting_kept, buffer-kept, same-but-counts}
use Rattle.theorems.proofs.SoundReceive.{is-ready, first_holds, none-held, received-sound, wait_rank-bound, ahead_of, behind-of}
use Rattle.theorems.proofs.SoundSubmit.{own-rules}
use Rattle.theorems.proofs.CountChange
use Rattle.theorems.proofs.CountChange.{QueueChanged}

module _ (s : State) (g : SoundFacts s) (caller slot ticks : ℕ) (caller< : caller < task_count) (slot< : slot < slot_count) (rdy : Ready (task_at s caller))
    (live : (queue_at s slot).live ≡ 1) (empty : (queue_at s slot).pending ≡ 0)
    (may : (eqb (share_of_slot slot) (share_of_task caller) || is_open (queue_at s slot)) ≡ true) where
  abbrev rank : ℕ
  rank = wait_rank s caller slot

  abbrev s' : State
  s' = (waiting s caller slot rank ticks).after

  abbrev more : Queue → Queue
  more q = with_waiters (suc q.waiters) q

  abbrev P : ℕ → Position
  P j = (task_at s j).position

  sized' : Sized s'
  unfolding waiting
  sized' =
      record
      { queues = length-mapped _ s.queues ∙ g.sized.queues; pool = g.sized.pool; tasks = length-mapped _ s.tasks ∙ g.sized.tasks }

  change : QueueChanged s s' slot more
  unfolding waiting
  change = record { facts = g; sized = sized'; inside = slot<; queues = refl }

  abbrev waits : Task → Task
  waits w = waiting_at (position_at slot rank) ticks w

  task-after : (j : ℕ) → j < task_count → task_at s' j ≡ (if eqb j caller then waits (task_at s j) else move_task (inserted caller slot rank j (P j)) (task_at s j))
  unfolding waiting
  task-after = stepped-at (tasks-ranked s g slot slot<) move_task caller waits (inserted caller slot rank)

  task-other : (j : ℕ) → j < task_count → (j ≡ caller → ⊥) → task_at s' j ≡ move_task (inserted caller slot rank j (P j)) (task_at s j)
  task-other j h ne = task-after j h ∙ rw (ne_eqb j caller ne)

  position-after : (j : ℕ) → j < task_count → (task_at s' j).position ≡ inserted caller slot rank j (P j)
  unfolding waiting
  position-after =
      stepped-changed (tasks-ranked s g slot slot<) move_task caller waits (inserted caller slot rank) (λ p w. refl) (λ w. sym (in_itself caller slot rank w.position))

  priority' : (j : ℕ) → j < task_count → (task_at s' j).priority ≡ (task_at s j).priority
  priority' j h =
      ap (λ (w : Task). w.priority) (task-after j h)
      ∙ if-at (λ w. w.priority ≡ (task_at s j).priority) j caller (waiting_at (position_at slot rank) ticks (task_at s j)) _ (λ _. refl) (λ _. refl)

  is_live : Live (queue_at s slot)
  is_live = live_of _ (g.queue slot slot<) (inr (inr live))

  kept : Kept s s'
  kept = CountChange.kept change (same-but-counts _ _ _)

  -- ---- The order of the queue

  module _ (p : has_priority (queue_at s slot) ≡ true) where
    -- the place of another task of the queue afterwards
    came : (j : ℕ) → j < task_count → (task_at s' j).position.queue ≡ suc slot → (j ≡ caller → ⊥)
        → ((P j).queue ≡ suc slot) × Came rank (P j).rank (task_at s' j).position.rank
    came j h q ne =
        let (a, c) =
        was task_count P slot (queue_at s slot).waiters caller rank caller< rdy.queue (wait_rank-bound s g caller slot slot<) (g.waiters slot slot<) j h
        (sym (ap (λ (x : Position). x.queue) (position-after j h)) ∙ q) ne in
        (a, subst (λ (n : ℕ). Came rank (P j).rank n) (sym (ap (λ (x : Position). x.rank) (position-after j h))) c)

    caller-rank : (j : ℕ) → j ≡ caller → (task_at s' j).position.rank ≡ rank
    caller-rank j e = subst (λ (k : ℕ). (task_at s' k).position.rank ≡ rank) (sym e) (ap (λ (x : Position). x.rank) (position-after caller caller< ∙ in_itself caller slot rank (P caller)))

    in_order : Ordered s' slot
    in_order a b ha hb qa qb lt = go (same? a caller) (same? b caller)
      where
        pa : (task_at s' a).priority ≡ (task_at s a).priority
        pa = priority' a ha

        pb : (task_at s' b).priority ≡ (task_at s b).priority
        pb = priority' b hb

        T : Type 0
        T = (task_at s' a).priority ≤ (task_at s' b).priority

        -- the caller is ahead of b
        first : a ≡ caller → (P b).queue ≡ suc slot → Came rank (P b).rank (task_at s' b).position.rank → T
        first e q (before h k) = absurd (let z = caller-rank a e in omega arith)
        first e q (after h k) =
            let o = behind-of s g caller slot slot< p b hb q h in
            let c = ap (λ (j : ℕ). (task_at s j).priority) e in
            omega (arith, pa, pb)

        -- the caller is behind a
        last : b ≡ caller → (P a).queue ≡ suc slot → Came rank (P a).rank (task_at s' a).position.rank → T
        last e q (before h k) =
            let o = ahead_of s g caller slot slot< p a ha q h in
            let c = ap (λ (j : ℕ). (task_at s j).priority) e in
            omega (arith, pa, pb)
        last e q (after h k) = absurd (let z = caller-rank b e in omega arith)

        go : (a ≡ caller) ⊎ (a ≡ caller → ⊥) → (b ≡ caller) ⊎ (b ≡ caller → ⊥) → T
        go (inl ea) (inl eb) = absurd (let x = caller-rank a ea in let y = caller-rank b eb in omega arith)
        go (inl ea) (inr nb) = let (q, c) = came b hb qb nb in first ea q c
        go (inr na) (inl eb) = let (q, c) = came a ha qa na in last eb q c
        go (inr na) (inr nb) =
            let (wa, ca) = came a ha qa na in
            let (wb, cb) = came b hb qb nb in
            let o = g.order slot slot< p a b ha hb wa wb (came-mono ca cb lt) in
            omega (arith, pa, pb)

  -- another queue's tasks are as they were
  agree : (i j : ℕ) → (i ≡ slot → ⊥) → j < task_count → Agree i (P j) (task_at s' j).position
  agree i j ne h =
      subst (λ (x : Position). Agree i (P j) x) (sym (position-after j h))
      (insert-other caller slot rank i j (P j) ne (λ e. ap (λ (k : ℕ). (P k).queue) e ∙ rdy.queue))

  order' : (i : ℕ) → i < slot_count → has_priority (queue_at s i) ≡ true → Ordered s' i
  order' i h p = ⊎_elim this other (same? i slot)
    where
      this : i ≡ slot → Ordered s' i
      this e =
          subst (λ (k : ℕ). Ordered s' k) (sym e) (in_order (subst (λ (k : ℕ). has_priority (queue_at s k) ≡ true) e p))

      other : (i ≡ slot → ⊥) → Ordered s' i
      other ne a b ha hb qa qb lt =
          let wa = (agree i a ne ha).1 qa in
          let wb = (agree i b ne hb).1 qb in
          let ra = ap (λ (x : Position). x.rank) ((agree i a ne ha).0 wa) in
          let rb = ap (λ (x : Position). x.rank) ((agree i b ne hb).0 wb) in
          let o = g.order i h p a b ha hb wa wb (omega arith) in
          let pa = priority' a ha in
          let pb = priority' b hb in
          omega arith

  -- ---- Tasks

  task' : (j : ℕ) → j < task_count → sound_task s' j (task_at s' j) ≡ true
  unfolding task_rules
  task' j h =
      subst (λ (w : Task). sound_task s' j w ≡ true) (sym (task-after j h))
      (if-at (λ w. sound_task s' j w ≡ true) j caller (waiting_at (position_at slot rank) ticks (task_at s j)) _
      (λ e. subst (λ (k : ℕ). sound_task s' k (waiting_at (position_at slot rank) ticks (task_at s k)) ≡ true) (sym e)
      (waiting-sound s' caller _ (waiting_kept {s = s} {s' = s'} kept waiter)))
      (λ ne. moved-task s s' j (task_at s j) _ kept (in_moved caller slot rank j (P j) ne) (g.task j h)))
    where
      waiter : Waiting s caller (waiting_at (position_at slot rank) ticks (task_at s caller))
      waiter =
          record {
            rules = own-rules s g caller caller<;
            state = refl;
            slot = slot;
            queue = refl;
            slot_below = slot<;
            live = live;
            access = may;
            status = refl;
            message_length = refl;
          }

  pub wait-sound : SoundFacts (waiting s caller slot (wait_rank s caller slot) ticks).after
  unfolding waiting
  wait-sound =
      CountChange.counted change (same-but-counts _ _ _)
      (live-sound _ (live-waiters _ _ (inl empty) is_live))
      (λ b h. buffer-kept s s' b (buffer_at s b) kept (g.buffer b h))
      (CountChange.messages-stay change refl)
      (insert_all task_count slot_count P (λ j. (task_at s' j).position) (λ i. (queue_at s i).waiters) (λ i. (queue_at s' i).waiters) slot g.waiters
      (λ i h ne. ap (λ (q : Queue). q.waiters) (CountChange.other change i h ne))
      caller rank caller< slot< rdy.queue (wait_rank-bound s g caller slot slot<)
      (ap (λ (q : Queue). q.waiters) (CountChange.here change)) position-after)
      order'
      task'

-- ---- Receive

pub usable-may : (s : State) (caller id : ℕ) → usable s caller id ≡ true
    → (eqb (share_of_slot (slot_of id)) (share_of_task caller) || is_open (queue_at s (slot_of id))) ≡ true
unfolding usable
usable-may s caller id u = (holds _ u).1.1.0

pub receive-sound : (s : State) → SoundFacts s → (caller slot ticks : ℕ) → caller < task_count → is_waiting (task_at s caller) ≡ false → slot < slot_count
    → (queue_at s slot).live ≡ 1 → (eqb (share_of_slot slot) (share_of_task caller) || is_open (queue_at s slot)) ≡ true
    → SoundFacts (effect s caller slot ticks).after
unfolding effect
receive-sound s g caller slot ticks caller< ready slot< live may = go (has_message s slot) refl
  where
    rdy : Ready (task_at s caller)
    rdy = is-ready s g caller caller< ready

    go : (b : Bool) → has_message s slot ≡ b
        → SoundFacts (if b then received s caller slot (first_message s slot) else waiting s caller slot (wait_rank s caller slot) ticks).after
    go true e =
        let lt : first_message s slot < buffer_count = ltb-true _ _ e in
        let (q, r) = first_holds s g.sized slot lt in
        received-sound s g caller slot (first_message s slot) caller< slot< lt rdy q r
    go false e = wait-sound s g caller slot ticks caller< slot< rdy live (none-held s g slot slot< (ltb-false _ _ e)) may
