-- Document 01, "Runs": "It starts on fresh tables." Fresh tables, made in the tables lent.
use Rattle.std.specs.Prelude.{ℕ, Bool, true, false, ◌&&◌, List, if◌then◌else◌}
use Rattle.records.specs.Bytes.{Tables, right_lengths}
use Rattle.specification.specs.Run.{good_priorities, fresh_tables}

-- whether they were made, and the tables after it
pub record MadeFresh : Type 0 where
  pub done : Bool
  pub after : Tables

-- Nothing is done where a table has a wrong length, or the priorities are not those of 32 tasks, each 1 to 255.
unfoldable pub made_fresh : Tables → (priorities : List ℕ) → MadeFresh
made_fresh t priorities =
    if right_lengths t && good_priorities priorities
    then record { done = true; after = fresh_tables priorities }
    else record { done = false; after = t }
