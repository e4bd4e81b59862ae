-- The C interface: what each function returns, the bytes that it leaves in the answer buffer, and the tables that it leaves.
use Rattle.std.specs.Prelude.{ℕ, Bool, List, length, eqb, if◌then◌else◌}
use Rattle.ranks.specs.Table.{byte}
use Rattle.records.specs.Bytes.{Tables}
use Rattle.records.specs.Status.{SUCCESSFUL, BAD-SHAPE}
use Rattle.specification.specs.Answer.{Outcome}
use Rattle.specification.specs.Call.{Operation, Call, delete, send, urgent, broadcast, receive, get_number_pending, flush, create, ident, on_queue, call, tick}
use Rattle.specification.specs.Step.{step}
use Rattle.calllog.specs.CallLog.{read_record, message_of, answer_width}
use Rattle.fresh_tables.specs.Fresh.{MadeFresh, made_fresh}
use Rattle.logged_calls.specs.LoggedCall.{answer_record, outcome_for}
use Rattle.runs.specs.Replay.{ReplayedInto, replayed_into}

pub record Returned : Type 0 where
  pub status : ℕ
  pub answer : List ℕ
  pub after : Tables

-- ---- One call

-- The outcome of a call whose record would have the first byte given. A buffer of another length gets 16, and nothing is done.
unfoldable pub answered_into : (lent : List ℕ) → Tables → (first_byte : ℕ) → Outcome Tables → Returned
answered_into lent t first_byte o =
    if eqb (length lent) answer_width
    then record { status = o.answer.status; answer = answer_record o.answer first_byte; after = o.after }
    else record { status = BAD-SHAPE; answer = lent; after = t }

-- "0 operation (1 to 10 in the order create, ident, delete, send, urgent, broadcast, receive, pending, flush, tick)"
unfoldable pub operation_number : Operation → ℕ
operation_number delete = 3
operation_number (send message) = 4
operation_number (urgent message) = 5
operation_number (broadcast message) = 6
operation_number (receive option ticks) = 7
operation_number get_number_pending = 8
operation_number flush = 9

unfoldable pub call_number : Call → ℕ
call_number (call caller (create name limit max_size attributes)) = 1
call_number (call caller (ident name share)) = 2
call_number (call caller (on_queue id operation)) = operation_number operation
call_number tick = 10

-- a directive or a tick
abbrev pub called : (lent : List ℕ) → Tables → Call → Returned
called lent t c = answered_into lent t (call_number c) (step t c)

-- a call record; one of another length than 136 bytes is malformed
abbrev pub called_record : (lent : List ℕ) → Tables → (bytes : List ℕ) → Returned
called_record lent t bytes = answered_into lent t (byte 0 bytes) (outcome_for t (read_record bytes) (message_of bytes))

-- ---- A log, and fresh tables

-- 0 for what was done, 16 where nothing was
abbrev pub done_status : Bool → ℕ
done_status done = if done then SUCCESSFUL else BAD-SHAPE

abbrev pub returned_of : ReplayedInto → Returned
returned_of r = record { status = done_status r.done; answer = r.answers; after = r.after }

-- A log is not replayed where the lent bytes have no room for its answer records.
abbrev pub replayed_log : (lent : List ℕ) → Tables → (log : List ℕ) → Returned
replayed_log lent t log = returned_of (replayed_into t log lent)

-- what a function without an answer buffer returns, and the tables that it leaves
pub record ReturnedAlone : Type 0 where
  pub status : ℕ
  pub after : Tables

abbrev pub returned_alone : MadeFresh → ReturnedAlone
returned_alone m = record { status = done_status m.done; after = m.after }

-- "Fresh tables are zero but for priorities of 1 to 255." None are made where a table has a wrong length, or the priorities are not those
-- of 32 tasks, each 1 to 255.
abbrev pub fresh_tables_made : Tables → (priorities : List ℕ) → ReturnedAlone
fresh_tables_made t priorities = returned_alone (made_fresh t priorities)
