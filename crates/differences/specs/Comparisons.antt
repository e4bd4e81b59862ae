-- For the code: the records of an image by their number in image order, and the answer and the list that the code leaves.
use Rattle.std.specs.Prelude.{ℕ, ◌+◌, ◌-◌, List, map, ltb, if◌then◌else◌}
use Rattle.ranks.specs.Lists.{keep_if, numbers_from}
use Rattle.records.specs.Layout.{slot_count, queue_width, buffer_count, buffer_width, task_width, queues_place, pool_place, tasks_place, image_record_count}
use Rattle.specification.specs.Answer.{Outcome, outcome}
use Rattle.differences.specs.Differences.{table_record, difference_in, differs}
use Rattle.differences.specs.declared.answer.Answer.{Answer}
use Rattle.differences.specs.declared.difference.Difference.{Difference}
use Rattle.differences.specs.declared.image.ImageRecord.{ImageRecord}
use Rattle.differences.specs.declared.image.Table.TheVariants.{Queues, Pool, Tasks}

-- record `k` of an image
unfoldable pub image_record_at : ℕ → ImageRecord
image_record_at k =
    if ltb k slot_count then table_record Queues queues_place queue_width k
    else (if ltb k (slot_count + buffer_count) then table_record Pool pool_place buffer_width (k - slot_count)
    else table_record Tasks tasks_place task_width (k - (slot_count + buffer_count)))

-- the difference in record `k`
abbrev pub difference_at : (one two : List ℕ) → ℕ → Difference
difference_at one two k = difference_in one two (image_record_at k)

-- the differences from record `k` on
unfoldable pub differences_from : (one two : List ℕ) → ℕ → List Difference
differences_from one two k = keep_if differs (map (difference_at one two) (numbers_from k (image_record_count - k)))

-- an answer that wakes nobody
abbrev pub answer_with : (status value : ℕ) → Answer
answer_with status value = record { status = status; value = value; woken = 0 }

-- what the code answered, and the list that it left
abbrev pub list_outcome : Answer → List Difference → Outcome (List Difference)
list_outcome a list = outcome a.status a.value a.woken list
