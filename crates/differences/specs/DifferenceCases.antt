-- Document 02, [2]: differences written out, and where records of an image stand.
use Rattle.std.specs.Prelude.{ℕ, ◌≡◌, List, [], ◌∷◌, length, map, take, drop, replicate, set}
use Rattle.records.specs.Layout.{image_size, image_record_count}
use Rattle.records.specs.RecordCases.{zeros}
use Rattle.records.specs.Status.{SUCCESSFUL}
use Rattle.specification.specs.Answer.{outcome}
use Rattle.differences.specs.Differences.{table_number, record_difference, image_records, list_filled}
use Rattle.differences.specs.declared.difference.Difference.{Difference}
use Rattle.differences.specs.declared.image.ImageRecord.{ImageRecord}
use Rattle.differences.specs.declared.image.Table.{Table}
use Rattle.differences.specs.declared.image.Table.TheVariants.{Queues, Pool, Tasks}

abbrev pub difference : (table number place count : ℕ) → Difference
difference table number place count = record { table = table; number = number; place = place; count = count }

abbrev standing : Table → (number start width : ℕ) → ImageRecord
standing table number start width = record { table = table; number = number; start = start; width = width }

-- a record with other bytes at some places
unfoldable pub changed_at : List ℕ → List ℕ → List ℕ
changed_at [] r = r
changed_at (p ∷ ps) r = set (changed_at ps r) p 255

-- a list of entries that no comparison makes
abbrev pub untouched : (room : ℕ) → List Difference
untouched room = replicate room (difference 9 9 9 9)

pub record DifferencesHold : Type 0 where
  -- "first place in it that differs, how many bytes differ"
  pub one_byte : record_difference 0 3 (zeros 16) (changed_at (15 ∷ []) (zeros 16)) ≡ difference 0 3 15 1
  pub three-bytes : record_difference 2 7 (zeros 136) (changed_at (16 ∷ 20 ∷ 135 ∷ []) (zeros 136)) ≡ difference 2 7 16 3
  -- two places that differ with one between them that does not: 2, and not the 3 from the first to the last
  pub with-a-gap : record_difference 1 63 (zeros 128) (changed_at (4 ∷ 6 ∷ []) (zeros 128)) ≡ difference 1 63 4 2
  pub every_byte : record_difference 1 0 (zeros 128) (replicate 128 1) ≡ difference 1 0 0 128
  -- equal records have no place that differs
  pub equal : record_difference 0 0 (zeros 16) (zeros 16) ≡ difference 0 0 16 0
  -- "An image is the three tables in this order, 12,800 bytes"; "Room for under 112"
  pub size : image_size ≡ 12800
  pub count : length image_records ≡ image_record_count
  pub count-112 : image_record_count ≡ 112
  -- "table (0 queues, 1 pool, 2 tasks)"
  pub table-numbers : map table_number (Queues ∷ Pool ∷ Tasks ∷ []) ≡ 0 ∷ 1 ∷ 2 ∷ []
  -- the first record, the last of a table and the first of the next, the last
  pub first : take 1 image_records ≡ standing Queues 0 0 16 ∷ []
  pub queues-then-pool : take 2 (drop 15 image_records) ≡ standing Queues 15 240 16 ∷ standing Pool 0 256 128 ∷ []
  pub pool-then-tasks : take 2 (drop 79 image_records) ≡ standing Pool 63 8320 128 ∷ standing Tasks 0 8448 136 ∷ []
  pub last : drop 111 image_records ≡ standing Tasks 31 12664 136 ∷ []
  -- "the answer is status 0 with their number as value, and entries past it stay as they were"
  pub past-the-value : list_filled (difference 1 0 4 1 ∷ difference 2 31 135 1 ∷ []) (untouched 4)
      ≡ outcome SUCCESSFUL 2 0 (difference 1 0 4 1 ∷ difference 2 31 135 1 ∷ untouched 2)
  pub none-differs : list_filled [] (untouched 4) ≡ outcome SUCCESSFUL 0 0 (untouched 4)
