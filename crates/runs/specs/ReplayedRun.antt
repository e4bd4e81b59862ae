-- Document 01, "Runs" and "The call log": a replayed log is a run of its calls. "A malformed log record is no call."
use Rattle.std.specs.Prelude.{ℕ, ◌≡◌, List, [], ◌∷◌, ◌++◌, map, take, drop}
use Rattle.ranks.specs.Table.{slice, byte}
use Rattle.octets.specs.LittleEndian.{from_little_endian}
use Rattle.records.specs.Bytes.{Tables}
use Rattle.records.specs.InRange.{AllBytes}
use Rattle.records.specs.Status.{BAD-SHAPE}
use Rattle.specification.specs.Answer.{Answer}
use Rattle.specification.specs.Call.{Call}
use Rattle.specification.specs.Run.{Event, run}
use Rattle.calllog.specs.CallLog.{read_record, message_of, answer_width}
use Rattle.calllog.specs.declared.call.LogResult.{LogResult}
use Rattle.calllog.specs.declared.call.LogResult.TheVariants.{WellFormed, Malformed, End}
use Rattle.logged_calls.specs.LoggedCall.{call_of, answer_record}
use Rattle.runs.specs.Replay.{records_of, replayed}

-- ---- The calls of a log

-- the call that a record says, or none
unfoldable pub call_said : LogResult → (message : List ℕ) → List Call
call_said (WellFormed c) message = call_of c message ∷ []
call_said Malformed message = []
call_said End message = []

-- of the records of a log, in order
unfoldable pub calls_said : (records : List (List ℕ)) → List Call
calls_said [] = []
calls_said (r ∷ rs) = call_said (read_record r) (message_of r) ++ calls_said rs

abbrev pub calls_in : (log : List ℕ) → List Call
calls_in log = calls_said (records_of log)

-- ---- What is written of a log whose calls got the answers of a run

-- "16", with value and mask 0
abbrev pub malformed : Answer
malformed = record { status = BAD-SHAPE; value = 0; woken = 0 }

-- The answer record of a record that says this and has the first byte given, then what `rest` makes of the events that are left. The next event
-- is that of the record's call, and where there is none nothing is written.
unfoldable pub written_for : LogResult → (first_byte : ℕ) → (rest : List Event → List ℕ) → List Event → List ℕ
written_for (WellFormed c) first_byte rest [] = []
written_for (WellFormed c) first_byte rest (e ∷ es) = answer_record e.answer first_byte ++ rest es
written_for Malformed first_byte rest es = answer_record malformed first_byte ++ rest es
written_for End first_byte rest es = answer_record malformed first_byte ++ rest es

-- the answer records of the records, one for each
unfoldable pub written : (records : List (List ℕ)) → List Event → List ℕ
written [] es = []
written (r ∷ rs) es = written_for (read_record r) (byte 0 r) (written rs) es

-- ---- The same read back

-- "An answer record is 16 bytes: status, first byte of the call, 0, 0, value, mask, four zeros."
unfoldable pub answer_in : List ℕ → Answer
answer_in r = record { status = byte 0 r; value = from_little_endian (slice 4 4 r); woken = from_little_endian (slice 8 4 r) }

-- the calls among the records with their answers, which stand in the bytes written, 16 for each record
unfoldable pub events_from : (records : List (List ℕ)) (answers : List ℕ) → List Event
events_from [] answers = []
events_from (r ∷ rs) answers =
    map (λ c. record { call = c; answer = answer_in (take answer_width answers) }) (call_said (read_record r) (message_of r)) ++ events_from rs (drop answer_width answers)

-- of a log replayed from tables
abbrev pub events_of : Tables → (log : List ℕ) → List Event
events_of t log = events_from (records_of log) (replayed t log).answers

-- ---- The statements

-- tables of bytes, of any lengths, sound or not
pub record OfBytes (t : Tables) : Type 0 where
  pub queues : AllBytes t.queues
  pub pool : AllBytes t.pool
  pub tasks : AllBytes t.tasks

-- The calls of a log are a run: "Each call or tick gets the three tables as the one before left them, refused or not".
pub record ReplayIsRun : Type 0 where
  -- on any tables and for any log, the tables after it are those after the run
  pub after : (t : Tables) (log : List ℕ) → (replayed t log).after ≡ (run t (calls_in log)).tables
  -- and what is written is the answers of the run, with a 16 for each record that is no call
  pub answers : (t : Tables) (log : List ℕ) → (replayed t log).answers ≡ written (records_of log) (run t (calls_in log)).events
  -- on tables of bytes and for a log of bytes, the answers can be read back from what is written
  pub events : (t : Tables) (log : List ℕ) → OfBytes t → AllBytes log → events_of t log ≡ (run t (calls_in log)).events
