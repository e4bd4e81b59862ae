-- A task that leaves its queue leaves sound tables. Assumes nothing.
use Prim.Native.Nat.{ℕ, suc, ◌-◌, ◌≤◌, ◌<◌}
use native.Mathlib.Omega.{arith}
use mathlib.Core.Path.{◌≡◌, refl, sym, ap, ◌∙◌, subst}
use mathlib.Core.Bool.{true}
use mathlib.Core.Logic.{inl, inr, ⊎_elim}
use lib.Dec.{eqb}
use Rattle.std.specs.Prelude.{if◌then◌else◌}
use Rattle.ranks.specs.Position.{Position, no_queue}
use Rattle.records.specs.Layout.{slot_count, task_count}
use Rattle.records.specs.Records.{Queue, Task, State, queue_at, buffer_at, task_at, has_priority}
use Rattle.ranks.specs.Steps.{taken_out}
use Rattle.specification.specs.Sound.{sound_task}
use Rattle.records.specs.Changes.{with_waiters, move_task}
use Rattle.specification.specs.Lookup.{leave}
use Rattle.ranks.proofs.Lists.{length-mapped}
use Rattle.ranks.proofs.Tests.{same?}
use Rattle.specification.proofs.Rules.{Live, Ready, live-sound, ready-sound}
use Rattle.ranks.proofs.Ranks.{Agree, out-itself, out-moved, take-out-other, take-out-all, stayed, left-mono}
use Rattle.specification.proofs.SoundFacts.{Sized, SoundFacts, Ordered, tasks-ranked}
use Rattle.theorems.proofs.ListSteps.{stepped-at, stepped-changed}
use Rattle.theorems.proofs.KeptQueues.{if-at, live-waiters, live_of, Kept, buffer-kept, moved-task, same-but-counts}
use Rattle.theorems.proofs.CountChange
use Rattle.theorems.proofs.CountChange.{QueueChanged}

abbrev pub fewer : Queue → Queue
fewer q = with_waiters (q.waiters - 1) q

module _ (s : State) (g : SoundFacts s) (t slot : ℕ) (f : Task → Task) (here : t < task_count) (slot< : slot < slot_count) (q : (task_at s t).position.queue ≡ suc slot)
    (rdy : Ready (f (task_at s t))) (nw : (w : Task) → (f w).position ≡ no_queue) where
  abbrev rank : ℕ
  rank = (task_at s t).position.rank

  abbrev s' : State
  s' = leave s t slot rank f

  abbrev P : ℕ → Position
  P j = (task_at s j).position

  -- ---- The records afterwards

  sized' : Sized s'
  unfolding leave
  sized' =
      record {
        queues = length-mapped _ s.queues ∙ g.sized.queues;
        pool = g.sized.pool;
        tasks = length-mapped _ s.tasks ∙ g.sized.tasks;
      }

  change : QueueChanged s s' slot fewer
  unfolding leave
  change = record { facts = g; sized = sized'; inside = slot<; queues = refl }

  task-after : (j : ℕ) → j < task_count → task_at s' j ≡ (if eqb j t then f (task_at s j) else move_task (taken_out t slot rank j (P j)) (task_at s j))
  unfolding leave
  task-after = stepped-at (tasks-ranked s g slot slot<) move_task t f (taken_out t slot rank)

  position-after : (j : ℕ) → j < task_count → (task_at s' j).position ≡ taken_out t slot rank j (P j)
  unfolding leave
  position-after =
      stepped-changed (tasks-ranked s g slot slot<) move_task t f (taken_out t slot rank) (λ p w. refl) (λ w. nw w ∙ sym (out-itself t slot rank w.position))

  priority-after : (j : ℕ) → j < task_count → (j ≡ t → ⊥) → (task_at s' j).priority ≡ (task_at s j).priority
  priority-after j h ne =
      ap (λ (w : Task). w.priority) (task-after j h)
      ∙ if-at (λ w. w.priority ≡ (task_at s j).priority) j t (f (task_at s j)) _ (λ e. absurd (ne e)) (λ _. refl)

  -- ---- The queue

  has : 1 ≤ (queue_at s slot).waiters
  has = let h = (g.waiters slot slot<).below t here q in omega arith

  live : Live (queue_at s slot)
  live = live_of _ (g.queue slot slot<) (inr (inl has))

  none : (queue_at s slot).pending ≡ 0
  none = ⊎_elim (λ e. e) (λ e. absurd (let h = has in omega arith)) live.either

  kept : Kept s s'
  kept = CountChange.kept change (same-but-counts _ _ _)

  -- ---- The order of the waiters

  agree : (i j : ℕ) → (i ≡ slot → ⊥) → j < task_count → Agree i (P j) (task_at s' j).position
  agree i j ne h =
      subst (λ (x : Position). Agree i (P j) x) (sym (position-after j h))
      (take-out-other t slot rank i j (P j) ne (λ e. ap (λ (k : ℕ). (P k).queue) e ∙ q))

  order' : (i : ℕ) → i < slot_count → has_priority (queue_at s i) ≡ true → Ordered s' i
  order' i h p a b ha hb qa qb lt = ⊎_elim this other (same? i slot)
    where
      T : Type 0
      T = (task_at s' a).priority ≤ (task_at s' b).priority

      ra : (task_at s' a).position.rank ≡ (taken_out t slot rank a (P a)).rank
      ra = ap (λ (x : Position). x.rank) (position-after a ha)

      rb : (task_at s' b).position.rank ≡ (taken_out t slot rank b (P b)).rank
      rb = ap (λ (x : Position). x.rank) (position-after b hb)

      this : i ≡ slot → T
      this e =
          let was = stayed task_count P slot (queue_at s slot).waiters t here q (g.waiters slot slot<) in
          let (na, wa, la) = was a ha (sym (ap (λ (x : Position). x.queue) (position-after a ha)) ∙ qa ∙ ap suc e) in
          let (nb, wb, lb) = was b hb (sym (ap (λ (x : Position). x.queue) (position-after b hb)) ∙ qb ∙ ap suc e) in
          let o = g.order i h p a b ha hb (wa ∙ sym (ap suc e)) (wb ∙ sym (ap suc e)) (left-mono la lb (omega (arith, ra, rb))) in
          omega (arith, priority-after a ha na, priority-after b hb nb)

      other : (i ≡ slot → ⊥) → T
      other ne =
          let not_t : (j : ℕ) → (P j).queue ≡ suc i → j ≡ t → ⊥ =
          λ j w e. ne (let y : suc i ≡ suc slot = sym w ∙ ap (λ (k : ℕ). (P k).queue) e ∙ q in omega arith) in
          let wa = (agree i a ne ha).1 qa in
          let wb = (agree i b ne hb).1 qb in
          let ea = ap (λ (x : Position). x.rank) ((agree i a ne ha).0 wa) in
          let eb = ap (λ (x : Position). x.rank) ((agree i b ne hb).0 wb) in
          let o = g.order i h p a b ha hb wa wb (omega arith) in
          omega (arith, priority-after a ha (not_t a wa), priority-after b hb (not_t b wb))

  pub leave-sound : SoundFacts (leave s t slot (task_at s t).position.rank f)
  unfolding leave
  leave-sound =
      CountChange.counted change (same-but-counts _ _ _)
      (live-sound _ (live-waiters _ _ (inl none) live))
      (λ b h. buffer-kept s s' b (buffer_at s b) kept (g.buffer b h))
      (CountChange.messages-stay change refl)
      (take-out-all task_count slot_count P (λ j. (task_at s' j).position) (λ i. (queue_at s i).waiters) (λ i. (queue_at s' i).waiters) slot g.waiters
      (λ i h ne. ap (λ (q : Queue). q.waiters) (CountChange.other change i h ne))
      t here slot< q (ap (λ (q : Queue). q.waiters) (CountChange.here change)) position-after)
      order'
      (λ j h.
      subst (λ (w : Task). sound_task s' j w ≡ true) (sym (task-after j h))
      (if-at (λ w. sound_task s' j w ≡ true) j t (f (task_at s j)) _
      (λ e. subst (λ (k : ℕ). sound_task s' k (f (task_at s k)) ≡ true) (sym e) (ready-sound s' t _ rdy))
      (λ ne. moved-task s s' j (task_at s j) _ kept (out-moved t slot rank j (P j) ne) (g.task j h))))
