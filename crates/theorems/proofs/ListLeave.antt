-- A task that leaves its queue, on the queues as lists. Assumes nothing.
use Prim.Native.Nat.{ℕ, suc, ◌-◌, ◌<◌}
use native.Mathlib.Omega.{arith}
use mathlib.Core.Path.{◌≡◌, refl, sym, ap, ◌∙◌, subst}
use mathlib.Core.Bool.{not}
use mathlib.Core.Logic.{⊎_elim}
use mathlib.Core.List.{List, ◌∷◌}
use lib.Dec.{eqb}
use borrow.Author.Tests.{ne_eqb}
use Rattle.std.specs.Prelude.{if◌then◌else◌}
use Rattle.ranks.specs.Lists.{keep_if}
use Rattle.ranks.specs.Position.{no_queue}
use Rattle.ranks.specs.Steps.{taken_out, by_rank}
use Rattle.records.specs.Layout.{slot_count, task_count}
use Rattle.records.specs.Records.{Queue, Task, State, queue_at, task_at, fresh_task}
use Rattle.records.specs.Changes.{with_waiters, move_task}
use Rattle.specification.specs.Lookup.{leave}
use Rattle.theorems.specs.QueueLists.{contents, SameButPosition}
use Rattle.ranks.proofs.Tests.{same?}
use Rattle.ranks.proofs.Ranks.{out-itself}
use Rattle.ranks.proofs.ByRank.{Stands, Changed, filter-all, by-rank-listed, length-by-rank, taken-first, taken-out-list}
use Rattle.specification.proofs.SoundFacts.{Sized, SoundFacts, tasks-ranked}
use Rattle.theorems.proofs.SoundLeave.{fewer}
use Rattle.theorems.proofs.ListSteps.{stepped-at, stepped-changed, taken-agree}
use Rattle.theorems.proofs.ListContents.{same-waiters, kept-messages, moved-task}
use Rattle.theorems.proofs.CountChange
use Rattle.theorems.proofs.CountChange.{QueueChanged}

-- Task t has left the queue of the slot, where it stood at the rank.
pub record Leaves (s : State) (t slot rank : ℕ) (f : Task → Task) (s' : State) : Type 0 where
  pub pool : s'.pool ≡ s.pool
  pub queues : (i : ℕ) → i < slot_count → queue_at s' i ≡ with_waiters (queue_at s' i).waiters (queue_at s i)
  pub tasks : (k : ℕ) → k < task_count → SameButPosition (if eqb k t then f (task_at s k) else task_at s k) (task_at s' k)
  pub messages : (i : ℕ) → i < slot_count → (contents s' i).messages ≡ (contents s i).messages
  pub others : (i : ℕ) → i < slot_count → (i ≡ slot → ⊥) → (contents s' i).waiters ≡ (contents s i).waiters
  pub waiters : (i : ℕ) → i < slot_count → (contents s' i).waiters ≡ keep_if (λ k. not (eqb k t)) (contents s i).waiters
  pub first : rank ≡ 0 → (contents s slot).waiters ≡ t ∷ (contents s' slot).waiters

module _ {s : State} (g : SoundFacts s) (t slot rank : ℕ) (f : Task → Task) (slot< : slot < slot_count)
    (stands : Stands task_count (λ k. (task_at s k).position) slot rank t) (gone : (w : Task) → (f w).position ≡ no_queue) (z' : Sized (leave s t slot rank f)) where
  abbrev s' : State
  s' = leave s t slot rank f

  abbrev waiters : State → (n : ℕ) → List ℕ
  waiters s n = by_rank (λ (w : Task). w.position) slot n s.tasks

  change : QueueChanged s s' slot fewer
  unfolding leave
  change = record { facts = g; sized = z'; inside = slot<; queues = refl }

  changed : Changed (λ (w : Task). w.position) (fresh_task 1) task_count s.tasks s'.tasks (taken_out t slot rank)
  unfolding leave
  changed =
      stepped-changed (tasks-ranked s g slot slot<) move_task t f (taken_out t slot rank) (λ p w. refl) (λ w. gone w ∙ sym (out-itself t slot rank w.position))

  count : (queue_at s' slot).waiters ≡ (queue_at s slot).waiters - 1
  unfolding leave
  count = ap (λ (q : Queue). q.waiters) (CountChange.here change)

  other : (i : ℕ) → i < slot_count → (i ≡ slot → ⊥) → (contents s' i).waiters ≡ (contents s i).waiters
  unfolding leave
  other i i< ne =
      same-waiters g i i< s' z' (ap (λ (q : Queue). q.waiters) (CountChange.other change i i< ne))
      (taken-agree (tasks-ranked s g i i<) s'.tasks t slot rank ne stands.1 changed)

  -- it is left out of every list
  left_out : (i : ℕ) → i < slot_count → (contents s' i).waiters ≡ keep_if (λ k. not (eqb k t)) (contents s i).waiters
  unfolding contents
  left_out i i< =
      ⊎_elim
      (λ e. subst (λ (k : ℕ). (contents s' k).waiters ≡ keep_if (λ k. not (eqb k t)) (contents s k).waiters) (sym e)
      (ap (waiters s') count ∙ taken-out-list (tasks-ranked s g slot slot<) s'.tasks z'.tasks t rank stands changed))
      (λ ne.
      other i i< ne
      ∙ sym
      (filter-all _ _ 0
      (λ k h.
      let (j, q, r) = (by-rank-listed (tasks-ranked s g i i<)).entry k 0 (omega (arith, length-by-rank (tasks-ranked s g i i<))) in
      ap not
      (ne_eqb _ t
      (λ e. ne (let y : suc i ≡ suc slot = sym q ∙ ap (λ (n : ℕ). (task_at s n).position.queue) e ∙ stands.1 in omega arith))))))
      (same? i slot)

  pub leave-lists : Leaves s t slot rank f (leave s t slot rank f)
  unfolding leave contents
  leave-lists =
      record {
        pool = refl;
        queues = CountChange.of-each change (λ i q. q ≡ with_waiters q.waiters (queue_at s i)) refl (λ i h. refl);
        tasks = λ k h. moved-task f f _ _ (eqb k t) _ refl (stepped-at (tasks-ranked s g slot slot<) move_task t f (taken_out t slot rank) k h);
        messages = kept-messages change refl refl;
        others = other;
        waiters = left_out;
        first =
            λ e.
            taken-first (tasks-ranked s g slot slot<) s'.tasks z'.tasks t (stands.0, stands.1, stands.2 ∙ e)
            (subst (λ (r : ℕ). Changed (λ (w : Task). w.position) (fresh_task 1) task_count s.tasks s'.tasks (taken_out t slot r)) e changed)
            ∙ ap (λ (n : ℕ). t ∷ waiters s' n) (sym count);
      }
