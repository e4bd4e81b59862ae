-- A stored case: whether a log, replayed from the tables of an image, is answered as stored and leaves the tables as stored.
use Rattle.octets.specs.LittleEndian.{byte_values}
use Rattle.records.specs.Layout.{queues_size, pool_size, tasks_size, queues_place, pool_place, tasks_place}
use Rattle.std.specs.Prelude.{ℕ, ◌+◌, ◌*◌, Bool, ◌&&◌, List, [], ◌∷◌, length, set, eqb}
use Rattle.ranks.specs.Table.{slice}
use Rattle.records.specs.Bytes.{Tables}
use Rattle.calllog.specs.CallLog.{answer_width}
use Rattle.runs.specs.Replay.{replayed}
use Rattle.logio.specs.Agreeing.{agreement}

-- An image with changes written to it. A change is a place of two bytes, lowest first, and the byte that stands there.
unfoldable pub changed : (image changes : List ℕ) → List ℕ
changed image [] = image
changed image (low ∷ []) = image
changed image (low ∷ high ∷ []) = image
changed image (low ∷ high ∷ b ∷ changes) = changed (set image (low + byte_values * high) b) changes

-- byte for byte, and of one length
unfoldable pub same : List ℕ → List ℕ → Bool
same a b = eqb (agreement a b) (length a) && eqb (agreement a b) (length b)

-- "An image is the three tables in this order, 12,800 bytes."
unfoldable pub tables_in : (image : List ℕ) → Tables
tables_in image =
    record { queues = slice queues_place queues_size image; pool = slice pool_place pool_size image; tasks = slice tasks_place tasks_size image }

unfoldable pub same_tables : Tables → Tables → Bool
same_tables t u = same t.queues u.queues && same t.pool u.pool && same t.tasks u.tasks

-- the log is answered so, and leaves the tables of the image
unfoldable pub replays_to : Tables → (log answers image : List ℕ) → Bool
replays_to t log answers image = let r = replayed t log in same r.answers answers && same_tables r.after (tables_in image)

-- from the image with the changes before; the tables that are left have the changes after too
unfoldable pub case_holds : (image before log answers after : List ℕ) → Bool
case_holds image before log answers after =
    let start = changed image before in replays_to (tables_in start) log answers (changed start after)

-- ---- For the code

-- the room that the program has for what follows the head of a case
abbrev pub rest_room : ℕ
rest_room = 8192

-- the records of a log in that room are no more than these
abbrev pub rest_records : ℕ
rest_records = 64

-- the room for the answers to them
abbrev pub answers_room : ℕ
answers_room = rest_records * answer_width
