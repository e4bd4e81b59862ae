-- Document 01, "The call log": what a record of a log asks of the tables, and its answer record.
use Rattle.std.specs.Prelude.{ℕ, List, take}
use Rattle.records.specs.Bytes.{Tables}
use Rattle.records.specs.Status.{BAD-SHAPE}
use Rattle.specification.specs.Answer.{Answer, Outcome, refuse}
use Rattle.specification.specs.Call.{Directive, Call, create, ident, on_queue, delete, send, urgent, broadcast, receive, get_number_pending, flush, call, tick}
use Rattle.specification.specs.Step.{step}
use Rattle.calllog.specs.CallLog.{answer_bytes}
use Rattle.calllog.specs.declared.call.Directive.{Directive as LogDirective}
use Rattle.calllog.specs.declared.call.Directive.TheVariants.{Create, Ident, Delete, Send, Urgent, Broadcast, Receive, Pending, Flush}
use Rattle.calllog.specs.declared.call.Call.{Call as LogCall}
use Rattle.calllog.specs.declared.call.Call.TheVariants.{By, Tick}
use Rattle.calllog.specs.declared.call.LogResult.{LogResult}
use Rattle.calllog.specs.declared.call.LogResult.TheVariants.{WellFormed, Malformed, End}

-- the directive of a log's record, whose message is "in the log its first size bytes" of the field
unfoldable pub directive_of : LogDirective → (field : List ℕ) → Directive
directive_of (Create name limit max_size attributes) field = create name limit max_size attributes
directive_of (Ident name share) field = ident name share
directive_of (Delete id) field = on_queue id delete
directive_of (Send id size) field = on_queue id (send (take size field))
directive_of (Urgent id size) field = on_queue id (urgent (take size field))
directive_of (Broadcast id size) field = on_queue id (broadcast (take size field))
directive_of (Receive id option ticks) field = on_queue id (receive option ticks)
directive_of (Pending id) field = on_queue id get_number_pending
directive_of (Flush id) field = on_queue id flush

unfoldable pub call_of : LogCall → (field : List ℕ) → Call
call_of (By caller directive) field = call caller (directive_of directive field)
call_of Tick field = tick

-- A well-formed call is done; anything else "is 16", and is no call.
unfoldable pub outcome_for : Tables → LogResult → (field : List ℕ) → Outcome Tables
outcome_for t (WellFormed c) field = step t (call_of c field)
outcome_for t Malformed field = refuse t BAD-SHAPE
outcome_for t End field = refuse t BAD-SHAPE

-- the answer record of a call with the first byte given
abbrev pub answer_record : Answer → (first_byte : ℕ) → List ℕ
answer_record a first_byte = answer_bytes a.status first_byte a.value a.woken
