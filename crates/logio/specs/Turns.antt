-- A log of any length, read and replayed a block at a time.
-- Exact are, by what the reads and the writes came to: that what is replayed is what was put into the blocks, all of it in order and as one
-- log, which answers belong to which block, what becomes of the log after a block (`after_block`), and when the turns go on. No contract can
-- say what the reads and the writes came to, or that the system was asked for them: Filling.antt and Writing.antt say where that is read.
use Rattle.std.specs.Prelude.{ℕ, suc, ◌*◌, ◌≤◌, ◌≡◌, Bool, true, false, not, List, [], ◌++◌, length, take, nat_lt, Result, Ok, Err}
use Rattle.std.specs.declared.io.Error.{Error}
use Rattle.records.specs.Bytes.{Tables}
use Rattle.calllog.specs.CallLog.{record_width, answer_width, record_count}
use Rattle.runs.specs.Replay.{replayed, replayed_front}
use Rattle.streams.specs.declared.reading.Input.{Input}
use Rattle.logio.specs.declared.block.BlockReplayed.{BlockReplayed}
use Rattle.logio.specs.declared.input.ReplayError.{ReplayError}
use Rattle.logio.specs.declared.input.ReplayError.TheVariants.{NotRead, NotWritten, TooLong}
use Rattle.streams.specs.Filling.{standard_input, Fills, bytes_read}
use Rattle.streams.specs.Writing.{standard_output, WritesAnswers, input_name, output_name, length_name, Says}

-- how many records a block has
abbrev pub block_records : ℕ
block_records = 481

-- a block has whole records
abbrev pub block_bytes : ℕ
block_bytes = block_records * record_width

-- what the reads of a block came to
abbrev pub filled_of : Result BlockReplayed Error → Result ℕ Error
filled_of (Ok b) = Ok b.n
filled_of (Err e) = Err e

-- how many bytes of answers there are to a block: none where a read failed
abbrev pub answered_of : Result BlockReplayed Error → ℕ
answered_of (Ok b) = b.end
answered_of (Err e) = 0

-- Reads fill a block, and what they put there is replayed: the answers to it stand at the front of the room for them, and the bytes behind stay.
-- Where a read failed nothing is replayed.
pub record ReplaysBlock (from : Input) (start : Tables) (lent room : List ℕ) (b : Result BlockReplayed Error) (log answers : List ℕ) (left : Tables) : Type 0 where
  pub inside : bytes_read (filled_of b) ≤ length lent
  pub ends : answered_of b ≡ record_count (bytes_read (filled_of b)) * answer_width
  pub within : answered_of b ≤ length room
  pub fills : Fills from (filled_of b) log 0 lent
  pub replays : (record { answers = answers; after = left }) ≡ replayed_front start (take (bytes_read (filled_of b)) log) room

-- After a block: a read failed, or a write, or so many bytes of the log were read and replayed.
abbrev pub after_block : (filled : Result ℕ Error) (done : Result (Unit {0}) Error) → Result ℕ ReplayError
after_block (Err e) done = Err (NotRead e)
after_block (Ok n) (Err e) = Err (NotWritten e)
after_block (Ok n) (Ok u) = Ok n

-- The log may go on, unless something failed or a block was shorter than the others.
abbrev pub goes_on : Result ℕ ReplayError → Bool
goes_on (Ok n) = not (nat_lt n block_bytes)
goes_on (Err e) = false

-- how a log ends that does not go on
abbrev pub ending_of : Result ℕ ReplayError → Result (Unit {0}) ReplayError
ending_of (Ok n) = Ok tt
ending_of (Err e) = Err e

-- What becomes of a log after a block of which the reads came to `filled`, and whose answers are `bytes`. `done` stands for what a write of
-- them to standard output came to; where nobody asks for answers, all is done. After a failed read there are none, and nothing is written.
pub record Finished (answering : Bool) (filled : Result ℕ Error) (bytes : List ℕ) (r : Result ℕ ReplayError) : Type 0 where
  pub done : Result (Unit {0}) Error
  pub writes : WritesAnswers standard_output answering bytes done
  pub comes : r ≡ after_block filled done

-- One turn: reads fill a block, what they put there is replayed, and the answers to be written are the answers to it.
pub record Turn (answering : Bool) (start : Tables) (r : Result ℕ ReplayError) (left : Tables) : Type 0 where
  pub lent : List ℕ
  pub block : List ℕ
  pub filled : Result ℕ Error
  pub size : length lent ≡ block_bytes
  pub fills : Fills standard_input filled block 0 lent
  pub finished : Finished answering filled (replayed start (take (bytes_read filled) block)).answers r
  pub after : left ≡ (replayed start (take (bytes_read filled) block)).after

-- At most `count` turns: each but the last says that the log goes on, and the last does not, unless the turns are used up.
pub data Turns (answering : Bool) (ending : Result (Unit {0}) ReplayError) (left : Tables) : (count : ℕ) (start : Tables) → Type 0 where
  last : {count fewer : ℕ} {start : Tables} {r : Result ℕ ReplayError} → count ≡ suc fewer → Turn answering start r left → goes_on r ≡ false → ending ≡ ending_of r → Turns answering ending left count start
  more : {count fewer : ℕ} {start next : Tables} {r : Result ℕ ReplayError} → count ≡ suc fewer → Turn answering start r next → goes_on r ≡ true → Turns answering ending left fewer next → Turns answering ending left count start
  spent : {count : ℕ} → count ≡ 0 → ending ≡ Err TooLong → Turns answering ending left count left

-- the log that the turns replay
unfoldable pub log_of : {answering : Bool} {ending : Result (Unit {0}) ReplayError} {left : Tables} {count : ℕ} {start : Tables} → Turns answering ending left count start → List ℕ
log_of (last c t g e) = take (bytes_read t.filled) t.block
log_of (more c t g rest) = take (bytes_read t.filled) t.block ++ log_of rest
log_of (spent c e) = []

-- the answers to be written in the turns: those to each block behind those to the blocks before
unfoldable pub answers_of : {answering : Bool} {ending : Result (Unit {0}) ReplayError} {left : Tables} {count : ℕ} {start : Tables} → Turns answering ending left count start → List ℕ
answers_of {start = start} (last c t g e) = (replayed start (take (bytes_read t.filled) t.block)).answers
answers_of {start = start} (more c t g rest) = (replayed start (take (bytes_read t.filled) t.block)).answers ++ answers_of rest
answers_of (spent c e) = []

-- The turns of a log, of which the program makes no more than 2^64 - 1: their answers are those to the log as a whole, and the tables
-- after them are those after it.
pub record ReplayedInTurns (answering : Bool) (start : Tables) (ending : Result (Unit {0}) ReplayError) (left : Tables) : Type 0 where
  pub turns : Turns answering ending left 18446744073709551615 start
  pub answers : answers_of turns ≡ (replayed start (log_of turns)).answers
  pub after : left ≡ (replayed start (log_of turns)).after

-- What is said of a log: nothing where it was replayed to its end, and else what failed; where the turns are used up, the log's length.
pub data Tells : Result (Unit {0}) ReplayError → Type 0 where
  nothing : Tells (Ok tt)
  input : {e : Error} → Says input_name → Tells (Err (NotRead e))
  output : {e : Error} → Says output_name → Tells (Err (NotWritten e))
  endless : Says length_name → Tells (Err TooLong)
