-- Document 02, [2] "Image compare": what differs between two images, what a comparison answers, and what the lent list holds afterwards.
use Rattle.std.specs.Prelude.{ℕ, ◌+◌, ◌*◌, Bool, ◌&&◌, not, List, [], ◌∷◌, ◌++◌, map, length, drop, replicate, eqb, leb, ltb}
use Rattle.ranks.specs.Lists.{count_true, first_true, keep_if, numbers_from}
use Rattle.ranks.specs.Table.{slice}
use Rattle.records.specs.Layout.{slot_count, queue_width, buffer_count, buffer_width, task_count, task_width, queues_place, pool_place, tasks_place, image_size, image_record_count}
use Rattle.records.specs.Status.{SUCCESSFUL, BAD-SHAPE}
use Rattle.specification.specs.Answer.{Outcome, outcome, Refusal, ◌⇒◌, refuse_if_any}
use Rattle.differences.specs.declared.difference.Difference.{Difference}
use Rattle.differences.specs.declared.image.ImageRecord.{ImageRecord}
use Rattle.differences.specs.declared.image.Table.{Table}
use Rattle.differences.specs.declared.image.Table.TheVariants.{Queues, Pool, Tasks}

-- ---- One record

-- of each place, whether two records differ there
unfoldable pub differ_at : List ℕ → List ℕ → List Bool
differ_at [] ys = []
differ_at (x ∷ xs) [] = []
differ_at (x ∷ xs) (y ∷ ys) = not (eqb x y) ∷ differ_at xs ys

-- "table (0 queues, 1 pool, 2 tasks), record number, first place in it that differs, how many bytes differ". Equal records have count 0.
unfoldable pub record_difference : (table number : ℕ) (one two : List ℕ) → Difference
record_difference table number one two =
    record { table = table; number = number; place = first_true (differ_at one two); count = count_true (differ_at one two) }

-- ---- An image

-- "0 queues, 1 pool, 2 tasks"
abbrev pub table_number : Table → ℕ
table_number Queues = 0
table_number Pool = 1
table_number Tasks = 2

-- record `n` of a table that starts at a place of the image
abbrev pub table_record : Table → (place width n : ℕ) → ImageRecord
table_record table place width n = record { table = table; number = n; start = place + n * width; width = width }

-- the records of such a table, in order
unfoldable pub table_records : Table → (place width count : ℕ) → List ImageRecord
table_records table place width count = map (table_record table place width) (numbers_from 0 count)

-- "in image order"
unfoldable pub image_records : List ImageRecord
image_records =
    table_records Queues queues_place queue_width slot_count
    ++ table_records Pool pool_place buffer_width buffer_count
    ++ table_records Tasks tasks_place task_width task_count

-- the difference of two images in one record
unfoldable pub difference_in : (one two : List ℕ) → ImageRecord → Difference
difference_in one two r =
    record_difference (table_number r.table) r.number (slice r.start r.width one) (slice r.start r.width two)

unfoldable pub differs : Difference → Bool
differs d = ltb 0 d.count

-- "One entry for each differing record, in image order"
unfoldable pub differences : (one two : List ℕ) → List Difference
differences one two = keep_if differs (map (difference_in one two) image_records)

-- ---- The answer and the list

-- Neither "Room for under 112" nor "a wrong length". Nothing else is asked: "Unsound images are compared too."
unfoldable pub comparable : (one two : List ℕ) (room : ℕ) → Bool
comparable one two room = eqb (length one) image_size && eqb (length two) image_size && leb image_record_count room

-- "Room for under 112 or a wrong length gives 16"
unfoldable pub refusals : (one two : List ℕ) (room : ℕ) → List Refusal
refusals one two room = (not (comparable one two room) ⇒ BAD-SHAPE) ∷ []

-- "the answer is status 0 with their number as value, and entries past it stay as they were"
unfoldable pub list_filled : (entries list : List Difference) → Outcome (List Difference)
list_filled entries list = outcome SUCCESSFUL (length entries) 0 (entries ++ drop (length entries) list)

-- The answer, and the list after it. A refusal "leaves the list untouched".
unfoldable pub compared : (one two : List ℕ) (list : List Difference) → Outcome (List Difference)
compared one two list = refuse_if_any list (refusals one two (length list)) (list_filled (differences one two) list)

-- ---- A list of blank entries, with room for all that can differ

abbrev pub blank : Difference
blank = record { table = 0; number = 0; place = 0; count = 0 }

abbrev pub blanks : List Difference
blanks = replicate image_record_count blank
