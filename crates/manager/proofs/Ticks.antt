-- The outcome of a tick, as the code comes to it. Assumes nothing.
use Prim.Native.Nat.{ℕ, suc, ◌+◌, ◌-◌, ◌≤◌, ◌<◌}
use native.Mathlib.Omega.{arith}
use mathlib.Core.Path.{◌≡◌, refl, sym, ap, ap₂, ◌∙◌, subst}
use mathlib.Core.Bool.{true}
use mathlib.Core.Logic.{⊎_elim}
use mathlib.Core.List.{List}
use lib.Count.{ones}
use lib.ListN.{length}
use borrow.Author.Tests.{eqb-true}
use Rattle.ranks.specs.Lists.{mask, numbers_from}
use Rattle.records.specs.Layout.{task_count}
use Rattle.records.specs.Records.{State, task_at}
use Rattle.records.specs.Bytes.{Tables, tables, decode_tasks, decode, encode, right_lengths, decode_task_at}
use Rattle.records.proofs.Access.{task-at, ones-mask}
use Rattle.records.specs.Status.{SUCCESSFUL}
use Rattle.records.proofs.EncodeDecode.{lengths, encode-decode}
use Rattle.specification.specs.Call.{tick}
use Rattle.specification.specs.Sound.{sound}
use Rattle.specification.specs.Tick.{expiring, tick_task, tick_tasks}
use Rattle.specification.specs.Tick
use Rattle.specification.specs.Step.{effect, encoded}
use Rattle.specification.proofs.Rules.{task-rules}
use Rattle.specification.proofs.SoundFacts.{SoundFacts, sound-facts}
use Rattle.theorems.proofs.FieldsInRange.{decoded-sized}
use Rattle.theorems.proofs.SoundTick.{tick_task-sound}
use Rattle.common_refusals.proofs.FirstTests.{tasks_length}
use Rattle.manager.specs.Outcomes.{answer_of, outcome_of}
use Rattle.coremsg.specs.Ticks.{NamesSlot, TickedTask}
use Rattle.std.specs.Prelude.{Ok}
use Rattle.manager.specs.declared.answer.Completion.TheVariants.{Successful}
use Rattle.records.proofs.ByteLists.{Slice, bytes-lent}

-- a task of sound tables names a slot
names-slot : (t : Tables) → SoundFacts (decode t) → (k : ℕ) → k < task_count → NamesSlot (decode_task_at k t.tasks)
names-slot t g k h =
    subst NamesSlot (task-at t k h)
    (λ e. ⊎_elim
    (λ r. absurd (let a : (task_at (decode t) k).state ≡ 1 = eqb-true _ _ e in let b = r.state in omega arith))
    (λ w. let a = w.queue in let b = w.slot_below in (omega arith, omega arith)) (task-rules (decode t) k _ (g.task k h)))

-- The tasks from `t` on are still to be ticked.
pub record TickedBelow (q₀ p w₀ q w : List ℕ) (t : ℕ) : Type 0 where
  pub queues_size : length q ≡ length q₀
  pub tasks_size : length w ≡ length w₀
  pub queues_bytes : Slice q
  pub tasks_bytes : Slice w
  pub facts : SoundFacts (decode (tables q p w))
  pub rest : tick_tasks (decode (tables q p w)) (numbers_from t (task_count - t)) ≡ tick_tasks (decode (tables q₀ p w₀)) (numbers_from 0 task_count)

module _ (q₀ p w₀ : List ℕ) where
  pub none_ticked : sound (decode (tables q₀ p w₀)) ≡ true → Slice q₀ → Slice w₀ → TickedBelow q₀ p w₀ q₀ w₀ 0
  none_ticked ok bq bw =
      record {
        queues_size = refl;
        tasks_size = refl;
        queues_bytes = bq;
        tasks_bytes = bw;
        facts = sound-facts (decode (tables q₀ p w₀)) (decoded-sized (tables q₀ p w₀)) ok;
        rest = refl;
      }

  module _ (q w : List ℕ) (t : ℕ) (before : TickedBelow q₀ p w₀ q w t) where
    pub each_task : right_lengths (tables q₀ p w₀) ≡ true → (k : ℕ) → k < task_count → TickedTask q w k
    each_task shaped k h =
        let sizes = lengths (tables q₀ p w₀) shaped in
        record {
          task_below = h;
          queues_length = before.queues_size ∙ sizes.0;
          tasks_length = before.tasks_size ∙ sizes.2;
          names_slot = names-slot (tables q p w) before.facts k h;
        }

    pub one_more_ticked : (q' w' : List ℕ) → t < task_count → length q' ≡ length q → length w' ≡ length w → Slice q' → Slice w'
        → decode (tables q' p w') ≡ tick_task (decode (tables q p w)) t → TickedBelow q₀ p w₀ q' w' (t + 1)
    unfolding numbers_from tick_tasks
    one_more_ticked q' w' h lq lw bq bw step =
        let n : task_count - t ≡ suc (task_count - (t + 1)) = omega arith in
        let m : t + 1 ≡ suc t = omega arith in
        record {
          queues_size = lq ∙ before.queues_size;
          tasks_size = lw ∙ before.tasks_size;
          queues_bytes = bq;
          tasks_bytes = bw;
          facts = subst SoundFacts (sym step) (tick_task-sound (decode (tables q p w)) before.facts t h);
          rest =
              ap₂ (λ (s : State) (k : ℕ). tick_tasks s (numbers_from k (task_count - (t + 1)))) step m
              ∙ ap (λ (k : ℕ). tick_tasks (decode (tables q p w)) (numbers_from t k)) (sym n) ∙ before.rest;
        }

    all-ticked : task_count ≤ t → decode (tables q p w) ≡ tick_tasks (decode (tables q₀ p w₀)) (numbers_from 0 task_count)
    unfolding numbers_from tick_tasks
    all-ticked h =
        let n : 0 ≡ task_count - t = omega arith in
        ap (λ (k : ℕ). tick_tasks (decode (tables q p w)) (numbers_from t k)) n ∙ before.rest

    -- the whole tick
    pub tick_done : task_count ≤ t → right_lengths (tables q₀ p w₀) ≡ true → Slice p → (value woken : ℕ) → value ≡ ones woken → woken ≡ mask (expiring (decode_tasks w₀))
        → outcome_of (Ok (Successful value woken)) (tables q p w) ≡ encoded (effect (decode (tables q₀ p w₀)) tick)
    unfolding answer_of effect Tick.effect right_lengths decode
    tick_done h ok bp value woken counts e =
        let same : right_lengths (tables q p w) ≡ true = rw (before.queues_size, before.tasks_size) ok in
        let bytes : encode (decode (tables q p w)) ≡ tables q p w =
        encode-decode (tables q p w)
        (record {
          lengths = same;
          queues = bytes-lent q before.queues_bytes;
          pool = bytes-lent p bp;
          tasks = bytes-lent w before.tasks_bytes;
        }) in
        let counted = counts ∙ ap ones e ∙ ones-mask (expiring (decode_tasks w₀)) in
        let left = sym bytes ∙ ap encode (all-ticked h) in
        λ i. record { answer = record { status = SUCCESSFUL; value = counted i; woken = e i }; after = left i }

pub ruleset ticks = (tasks_length, none_ticked, each_task, one_more_ticked, tick_done)
