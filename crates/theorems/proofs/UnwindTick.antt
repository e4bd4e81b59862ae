-- A tick does to a confined share's records what those records say. Assumes nothing.
use Prim.Native.Nat.{ℕ, ◌<◌}
use native.Mathlib.Omega.{arith}
use mathlib.Core.Path.{◌≡◌, refl, sym, ap, ◌∙◌}
use mathlib.Core.Bool.{false}
use mathlib.Core.Logic.{⊎_elim}
use mathlib.Core.List.{List, [], ◌∷◌}
use borrow.Author.Tests.{ne_eqb}
use Rattle.ranks.specs.Lists.{map_with_index, numbers_from, bit}
use Rattle.records.specs.Layout.{task_count}
use Rattle.records.specs.Split.{share_of_task}
use Rattle.records.specs.Records.{Task, State, task_at, fresh_task}
use Rattle.records.specs.Changes.{ready_with}
use Rattle.records.specs.Status.{TIMEOUT}
use Rattle.specification.specs.Answer.{Outcome, refuse_if_any}
use Rattle.specification.specs.Call.{tick}
use Rattle.specification.specs.Lookup.{leave}
use Rattle.specification.specs.Tick.{expires, tick_task, tick_tasks}
use Rattle.specification.specs.Step.{common_refusals, own_refusals, effect}
use Rattle.ranks.proofs.Lists.{at-mapped, bit_mask, one}
use Rattle.ranks.proofs.Tests.{same?}
use Rattle.specification.proofs.Rules.{Waiting}
use Rattle.specification.proofs.SoundFacts.{SoundFacts, is-sound}
use Rattle.specification.proofs.OnRecords.{call_on_records}
use Rattle.theorems.proofs.SoundTick.{expires-waits, Below, below-range}
use Rattle.theorems.proofs.Equivalent.{still-mapped, Equivalent, equivalent-refl, equivalent-sym, equivalent-trans, Confined, tasks-in-own}
use Rattle.theorems.proofs.StepConsistency.{queues-same, tasks-same}
use Rattle.theorems.proofs.LocalRespect.{leave-equivalent}
use Rattle.theorems.proofs.Confinement.{expired, tick-cases, tick_task-confined}
use Rattle.specification.specs.Tick

-- ---- A task of another share

tick-respects : {x : ℕ} {s : State} → Confined x s → (t : ℕ) → t < task_count → (share_of_task t ≡ x → ⊥) → Equivalent x s (tick_task s t)
unfolding tick_task
tick-respects {x} {s} p t h n =
    tick-cases t (task_at s t) (λ f. Equivalent x s (f s)) (λ e. leaves (expires-waits s p.facts t h e))
    (record {
      queues = λ i k o. refl;
      pool = λ i k o. refl;
      tasks =
          still-mapped share_of_task x task_count (fresh_task 1) _ s.tasks p.facts.sized.tasks
          (λ j k o. rw (ne_eqb j t (λ q. n (sym (ap share_of_task q) ∙ o))));
    })
    (equivalent-refl x s)
  where
    leaves : Waiting s t (task_at s t) → Equivalent x s (expired t (task_at s t) s)
    leaves w = rw w.queue (leave-equivalent p w.slot (λ o. n ((tasks-in-own p).of-queue t w.slot h w.queue o)) t _ (ready_with TIMEOUT) n)

-- ---- A task of the share, and all tasks in turn

module _ {x : ℕ} {s s' : State} (p : Confined x s) (p' : Confined x s') (e : Equivalent x s s') where
  tick-own : (t : ℕ) → t < task_count → share_of_task t ≡ x → Equivalent x (tick_task s t) (tick_task s' t)
  unfolding tick_task leave
  tick-own t h o =
      rw (← e.tasks t h o)
      (tick-cases t (task_at s t) (λ f. Equivalent x (f s) (f s'))
      (λ _. record { queues = queues-same p p' e _; pool = e.pool; tasks = tasks-same p p' e _ })
      (record { queues = e.queues; pool = e.pool; tasks = tasks-same p p' e _ }) e)

  tick_task-equivalent : (t : ℕ) → t < task_count → Equivalent x (tick_task s t) (tick_task s' t)
  tick_task-equivalent t h =
      ⊎_elim (tick-own t h) (λ n. equivalent-trans (equivalent-sym (tick-respects p t h n)) (equivalent-trans e (tick-respects p' t h n)))
      (same? (share_of_task t) x)

tick_tasks-equivalent : {x : ℕ} {s s' : State} (ts : List ℕ) → Below task_count ts → Confined x s → Confined x s' → Equivalent x s s'
    → Equivalent x (tick_tasks s ts) (tick_tasks s' ts)
unfolding tick_tasks
tick_tasks-equivalent [] b p p' e = e
tick_tasks-equivalent {s = s} {s' = s'} (t ∷ ts) b p p' e =
    tick_tasks-equivalent {s = tick_task s t} {s' = tick_task s' t} ts b.1 (tick_task-confined p t b.0) (tick_task-confined p' t b.0) (tick_task-equivalent p p' e t b.0)

-- ---- The tick

-- the same status, the same bits of x's tasks, and equivalent states; the values may differ
pub record TickConsistent (x : ℕ) (o o' : Outcome State) : Type 0 where
  pub status : o.answer.status ≡ o'.answer.status
  pub bits : (t : ℕ) → t < task_count → share_of_task t ≡ x → bit t o.answer.woken ≡ bit t o'.answer.woken
  pub after : Equivalent x o.after o'.after

tick-accepted : (s : State) → SoundFacts s → call_on_records s tick ≡ Tick.effect s
unfolding call_on_records common_refusals own_refusals effect refuse_if_any
tick-accepted s g = rw (is-sound s g)

-- whether task `t` expires
expires-bit : (s : State) → SoundFacts s → (t : ℕ) → t < task_count → bit t (Tick.effect s).answer.woken ≡ one (expires (task_at s t))
unfolding Tick.effect
expires-bit s g t h =
    bit_mask (map_with_index (λ t w. expires w) s.tasks) t
    ∙ ap one (at-mapped (λ t w. expires w) s.tasks t (fresh_task 1) false (omega (arith, g.sized.tasks)))

pub tick-consistent : {x : ℕ} {s s' : State} → Confined x s → Confined x s' → Equivalent x s s' → TickConsistent x (call_on_records s tick) (call_on_records s' tick)
unfolding Tick.effect
tick-consistent {x} {s} {s'} p p' e =
    rw (tick-accepted s p.facts, tick-accepted s' p'.facts)
    (record {
      status = refl;
      bits = λ t h o. expires-bit s p.facts t h ∙ ap (λ (w : Task). one (expires w)) (e.tasks t h o) ∙ sym (expires-bit s' p'.facts t h);
      after = tick_tasks-equivalent (numbers_from 0 task_count) (below-range task_count 0 task_count (omega arith)) p p' e;
    })
