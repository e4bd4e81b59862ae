-- Every answer from sound tables fits its record: status at most 16, value and mask of 32 bits. Assumes nothing.
use Prim.Native.Nat.{ℕ, ◌≤◌, ◌<◌, ◌^◌}
use native.Mathlib.Nat.{pow-suc}
use native.Mathlib.Omega.{arith}
use mathlib.Core.Path.{◌≡◌, refl, sym, ◌∙◌, subst}
use mathlib.Core.Bool.{Bool, true, false}
use mathlib.Core.List.{List, [], ◌∷◌}
use lib.ListN.{length}
use borrow.Author.Tests.{ltb-true}
use Rattle.std.specs.Prelude.{if◌then◌else◌}
use Rattle.ranks.specs.Lists.{map_with_index, mask, count_true}
use Rattle.ranks.specs.Position.{in_queue}
use Rattle.records.specs.Split.{share_of_task}
use Rattle.records.specs.Layout.{slot_of, id_of, slot_count, task_count}
use Rattle.records.specs.Records.{Task, State}
use Rattle.records.specs.Bytes.{Tables, decode}
use Rattle.specification.specs.Answer.{Outcome}
use Rattle.specification.specs.Call.{Operation, Call, delete, send, urgent, broadcast, receive, get_number_pending, flush, create, ident, on_queue, call, tick}
use Rattle.specification.specs.Lookup.{has_waiter, first_message, has_message, waiters_of}
use Rattle.specification.specs.Step.{directive_refusals, operation_effect, effect, step}
use Rattle.theorems.specs.SoundTables.{SoundTables}
use Rattle.theorems.specs.Demands.{AnswerInRange}
use Rattle.ranks.proofs.Lists.{length-mapped, count-bound}
use Rattle.specification.proofs.OnRecords.{call_on_records}
use Rattle.specification.proofs.Refused.{refused-with}
use Rattle.specification.proofs.Accepted.{Accepted, accepted-facts, creatable, name-found}
use Rattle.specification.proofs.SoundFacts.{SoundFacts}
use Rattle.theorems.proofs.Demand1.{call-statuses}
use Rattle.theorems.proofs.Encodable.{Encodable}
use Rattle.theorems.proofs.FieldsInRange.{pending-bound, sound-in-range}
use Rattle.theorems.proofs.SoundCreate.{slot-found}
use Rattle.theorems.proofs.SoundSubmit.{slot-below}
use Rattle.theorems.proofs.SoundSteps.{facts, fits, answer-is}
use Rattle.specification.specs.Create
use Rattle.specification.specs.Ident
use Rattle.specification.specs.Delete
use Rattle.specification.specs.Submit
use Rattle.specification.specs.Broadcast
use Rattle.specification.specs.Receive
use Rattle.specification.specs.GetNumberPending
use Rattle.specification.specs.Flush
use Rattle.specification.specs.Tick

mask_bound : (bs : List Bool) → mask bs < 2 ^ length bs
unfolding mask
mask_bound [] = omega arith
mask_bound (true ∷ bs) = let ih : mask bs < 2 ^ length bs = mask_bound bs in let e = pow-suc 2 (length bs) in omega arith
mask_bound (false ∷ bs) = let ih : mask bs < 2 ^ length bs = mask_bound bs in let e = pow-suc 2 (length bs) in omega arith

module _ (s : State) (g : SoundFacts s) where
  -- a mask of all tasks
  tasks-mask : (F : ℕ → Task → Bool) → mask (map_with_index F s.tasks) < 2 ^ 32
  tasks-mask F =
      subst (λ (n : ℕ). mask (map_with_index F s.tasks) < 2 ^ n) (length-mapped F s.tasks ∙ g.sized.tasks) (mask_bound (map_with_index F s.tasks))

  tasks-count : (F : ℕ → Task → Bool) → count_true (map_with_index F s.tasks) ≤ task_count
  tasks-count F = omega (arith, count-bound (map_with_index F s.tasks), length-mapped F s.tasks, g.sized.tasks)

  module _ (f : Encodable s) where
    -- a number of at most 32 bits, for each of the values
    submitted : (b : Bool) (o o' : Outcome State) → AnswerInRange o.answer → AnswerInRange o'.answer → AnswerInRange (if b then o else o').answer
    submitted true o o' h k = h
    submitted false o o' h k = k

    received : (slot : ℕ) (b : Bool) → has_message s slot ≡ b → (caller ticks : ℕ)
        → AnswerInRange (if b then Receive.received s caller slot (first_message s slot) else Receive.waiting s caller slot (Receive.wait_rank s caller slot) ticks).answer
    unfolding Receive.received Receive.waiting
    received slot true e caller ticks =
        record {
          status = omega arith;
          value = let h = ((sound-in-range s g f).pool (first_message s slot) (ltb-true _ _ e)).message_length in omega arith;
          woken = omega arith;
        }
    received slot false e caller ticks = record { status = omega arith; value = omega arith; woken = omega arith }

    operation-answer : (caller slot : ℕ) → slot < slot_count → (o : Operation) → AnswerInRange (operation_effect s caller slot o).answer
    unfolding operation_effect Delete.effect Submit.effect Submit.delivered Submit.enqueued Broadcast.effect Receive.effect GetNumberPending.effect Flush.effect waiters_of
    operation-answer caller slot slot< delete = record { status = omega arith; value = omega arith; woken = tasks-mask _ }
    operation-answer caller slot slot< (send message) =
        submitted (has_waiter s slot) _ _ (record { status = omega arith; value = omega arith; woken = tasks-mask _ })
        (record { status = omega arith; value = omega arith; woken = omega arith })
    operation-answer caller slot slot< (urgent message) =
        submitted (has_waiter s slot) _ _ (record { status = omega arith; value = omega arith; woken = tasks-mask _ })
        (record { status = omega arith; value = omega arith; woken = omega arith })
    operation-answer caller slot slot< (broadcast message) =
        record { status = omega arith; value = let h = tasks-count (λ t w. in_queue slot w.position) in omega arith; woken = tasks-mask _ }
    operation-answer caller slot slot< (receive option ticks) = received slot (has_message s slot) refl caller ticks
    operation-answer caller slot slot< get_number_pending =
        record { status = omega arith; value = let h = pending-bound s g slot slot< in omega arith; woken = omega arith }
    operation-answer caller slot slot< flush =
        record { status = omega arith; value = let h = pending-bound s g slot slot< in omega arith; woken = omega arith }

    effect-answer : (c : Call) → Accepted s c → AnswerInRange (effect s c).answer
    unfolding effect Accepted directive_refusals Create.effect Ident.effect Tick.effect id_of
    effect-answer (call caller (create name limit max_size attributes)) a =
        let lt = (creatable s (share_of_task caller) name limit max_size attributes a.directive).slot_below in
        let h = (slot-found s g.sized (share_of_task caller) lt).2 in
        record { status = omega arith; value = omega arith; woken = omega arith }
    effect-answer (call caller (ident name share)) a =
        let lt = name-found s caller name share a.directive in
        let h = (f.queues (Ident.named s caller name share) lt).generation in
        record { status = omega arith; value = omega arith; woken = omega arith }
    effect-answer (call caller (on_queue id o)) n = operation-answer caller (slot_of id) (slot-below id) o
    effect-answer tick n =
        record { status = omega arith; value = let h = tasks-count (λ t w. Tick.expires w) in omega arith; woken = tasks-mask _ }

-- ---- Refused or not

pub answer-in-range : (t : Tables) (c : Call) → SoundTables t → AnswerInRange (step t c).answer
unfolding call_on_records
answer-in-range t c st =
    subst AnswerInRange (sym (answer-is t st c))
    (refused-with (λ o. AnswerInRange o.answer) (decode t) _ _ (call-statuses (decode t) c)
    (λ n h. record { status = h.1; value = omega arith; woken = omega arith })
    (λ n. effect-answer (decode t) (facts t st) (fits t st) c (accepted-facts (decode t) c n)))
