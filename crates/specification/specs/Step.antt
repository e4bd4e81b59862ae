-- One call on the byte tables: the refusals in their order, then the effect.
use Rattle.std.specs.Prelude.{ℕ, Bool, not, ◌||◌, List, [], ◌∷◌, ◌++◌, leb}
use Rattle.records.specs.Split.{share_of_task}
use Rattle.records.specs.Layout.{task_count, slot_of}
use Rattle.records.specs.Records.{State, is_waiting, task_at}
use Rattle.records.specs.Bytes.{Tables, decode, encode, right_lengths}
use Rattle.records.specs.Status.{INVALID-ID, CORRUPT, BAD-CALLER, BAD-SHAPE}
use Rattle.specification.specs.Answer.{Outcome, Refusal, refuse_if_any, ◌⇒◌}
use Rattle.specification.specs.Call.{Operation, Directive, Call, delete, send, urgent, broadcast, receive, get_number_pending, flush, create, ident, on_queue, call, tick}
use Rattle.specification.specs.Sound.{sound}
use Rattle.specification.specs.Lookup.{usable}
use Rattle.specification.specs.Create
use Rattle.specification.specs.Ident
use Rattle.specification.specs.Delete
use Rattle.specification.specs.Send
use Rattle.specification.specs.Urgent
use Rattle.specification.specs.Broadcast
use Rattle.specification.specs.Receive
use Rattle.specification.specs.GetNumberPending
use Rattle.specification.specs.Flush
use Rattle.specification.specs.Tick

-- ---- "Order: 16, 10, 11, then as each directive lists. A tick has no caller."

-- "caller above 31, or waiting"
unfoldable pub bad_caller : State → (caller : ℕ) → Bool
bad_caller s caller = leb task_count caller || is_waiting (task_at s caller)

unfoldable pub common_refusals : State → Call → List Refusal
common_refusals s (call caller directive) = (not (sound s) ⇒ CORRUPT) ∷ (bad_caller s caller ⇒ BAD-CALLER) ∷ []
common_refusals s tick = (not (sound s) ⇒ CORRUPT) ∷ []

unfoldable pub operation_refusals : State → (caller slot : ℕ) → Operation → List Refusal
operation_refusals s caller slot delete = Delete.refusals caller slot
operation_refusals s caller slot (send message) = Send.refusals s slot message
operation_refusals s caller slot (urgent message) = Urgent.refusals s slot message
operation_refusals s caller slot (broadcast message) = Broadcast.refusals s slot message
operation_refusals s caller slot (receive option ticks) = Receive.refusals s slot option
operation_refusals s caller slot get_number_pending = []
operation_refusals s caller slot flush = Flush.refusals caller slot

unfoldable pub directive_refusals : State → (caller : ℕ) → Directive → List Refusal
directive_refusals s caller (create name limit max_size attributes) = Create.refusals s (share_of_task caller) name limit max_size attributes
directive_refusals s caller (ident name share) = Ident.refusals s caller name share
directive_refusals s caller (on_queue id operation) =
    (not (usable s caller id) ⇒ INVALID-ID) ∷ operation_refusals s caller (slot_of id) operation

unfoldable pub own_refusals : State → Call → List Refusal
own_refusals s (call caller directive) = directive_refusals s caller directive
own_refusals s tick = []

unfoldable pub refusals : Tables → Call → List Refusal
refusals t c = (not (right_lengths t) ⇒ BAD-SHAPE) ∷ common_refusals (decode t) c ++ own_refusals (decode t) c

-- ---- The effect

unfoldable pub operation_effect : State → (caller slot : ℕ) → Operation → Outcome State
operation_effect s caller slot delete = Delete.effect s slot
operation_effect s caller slot (send message) = Send.effect s slot message
operation_effect s caller slot (urgent message) = Urgent.effect s slot message
operation_effect s caller slot (broadcast message) = Broadcast.effect s slot message
operation_effect s caller slot (receive option ticks) = Receive.effect s caller slot ticks
operation_effect s caller slot get_number_pending = GetNumberPending.effect s slot
operation_effect s caller slot flush = Flush.effect s slot

unfoldable pub effect : State → Call → Outcome State
effect s (call caller (create name limit max_size attributes)) =
    Create.effect s (Create.free_slot s (share_of_task caller)) name limit max_size attributes
effect s (call caller (ident name share)) = Ident.effect s (Ident.named s caller name share)
effect s (call caller (on_queue id operation)) = operation_effect s caller (slot_of id) operation
effect s tick = Tick.effect s

-- the same outcome as bytes
abbrev pub encoded : Outcome State → Outcome Tables
encoded o = record { answer = o.answer; after = encode o.after }

unfoldable pub step : Tables → Call → Outcome Tables
step t c = refuse_if_any t (refusals t c) (encoded (effect (decode t) c))
