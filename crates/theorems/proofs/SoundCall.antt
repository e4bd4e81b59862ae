-- Every call and tick leaves sound tables. Assumes nothing.
use Prim.Native.Nat.{ℕ}
use mathlib.Core.Path.{◌≡◌}
use mathlib.Core.Bool.{true}
use native.Mathlib.Nat.{le_refl}
use native.Mathlib.Omega.{arith}
use Rattle.records.specs.Layout.{slot_of}
use Rattle.records.specs.Split.{share_of_task}
use Rattle.records.specs.Records.{State}
use Rattle.specification.specs.Call.{Operation, Call, delete, send, urgent, broadcast, receive, get_number_pending, flush, create, ident, on_queue, call, tick}
use Rattle.specification.specs.Lookup.{usable}
use Rattle.specification.specs.Step.{operation_refusals, directive_refusals, operation_effect, effect}
use Rattle.specification.proofs.OnRecords.{call_on_records}
use Rattle.specification.proofs.Accepted.{ReadyCaller, Accepted, accepted-facts, creatable, on-queue, broadcast-size}
use Rattle.specification.proofs.Refused.{None, refused-or}
use Rattle.specification.proofs.SoundFacts.{SoundFacts}
use Rattle.theorems.proofs.SoundCleared.{broadcast-sound, flush-sound}
use Rattle.theorems.proofs.SoundCreate.{create-sound, delete-sound}
use Rattle.theorems.proofs.SoundSubmit.{usable-live, slot-below, submitted, submit-sound}
use Rattle.theorems.proofs.SoundTick.{tick-sound}
use Rattle.theorems.proofs.SoundWait.{usable-may, receive-sound}
use Rattle.specification.specs.GetNumberPending
use Rattle.specification.specs.Ident

module _ (s : State) (g : SoundFacts s) where
  operation-sound : (caller id : ℕ) (o : Operation) → ReadyCaller s caller → usable s caller id ≡ true
      → None (operation_refusals s caller (slot_of id) o) → SoundFacts (operation_effect s caller (slot_of id) o).after
  unfolding operation_refusals operation_effect GetNumberPending.effect
  operation-sound caller id delete r u n = delete-sound s g (slot_of id) (slot-below id)
  operation-sound caller id (send message) r u n =
      submit-sound s g (slot_of id) _ message (slot-below id) (usable-live s caller id u) (submitted s (slot_of id) message n) (le_refl _)
  operation-sound caller id (urgent message) r u n =
      submit-sound s g (slot_of id) _ message (slot-below id) (usable-live s caller id u) (submitted s (slot_of id) message n) (omega arith)
  operation-sound caller id (broadcast message) r u n =
      broadcast-sound s g (slot_of id) (slot-below id) message (usable-live s caller id u) (broadcast-size s (slot_of id) message n)
  operation-sound caller id (receive option ticks) r u n =
      receive-sound s g caller (slot_of id) ticks r.below r.ready (slot-below id) (usable-live s caller id u) (usable-may s caller id u)
  operation-sound caller id get_number_pending r u n = g
  operation-sound caller id flush r u n = flush-sound s g (slot_of id) (slot-below id) (usable-live s caller id u)

  pub effect-sound : (c : Call) → Accepted s c → SoundFacts (effect s c).after
  unfolding effect directive_refusals Accepted Ident.effect
  effect-sound (call caller (create name limit max_size attributes)) a =
      create-sound s g (share_of_task caller) name limit max_size attributes (creatable s (share_of_task caller) name limit max_size attributes a.directive)
  effect-sound (call caller (ident name share)) a = g
  effect-sound (call caller (on_queue id o)) a =
      let q = on-queue s caller id o a.directive in
      operation-sound caller id o a.caller q.is_usable q.operation
  effect-sound tick a = tick-sound s g

  pub call-sound : (c : Call) → SoundFacts (call_on_records s c).after
  unfolding call_on_records
  call-sound c = refused-or (λ o. SoundFacts o.after) s _ _ (λ n. g) (λ n. effect-sound c (accepted-facts s c n))
