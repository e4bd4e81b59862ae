-- Document 01, "Runs": "A run is a list of any length, empty too, of ticks and of calls of the nine directives."
use Rattle.std.specs.Prelude.{ℕ, Bool, ◌&&◌, List, [], ◌∷◌, length, eqb}
use Rattle.ranks.specs.Lists.{every, within}
use Rattle.records.specs.Layout.{task_count}
use Rattle.records.specs.Records.{fresh}
use Rattle.records.specs.Bytes.{Tables, encode}
use Rattle.specification.specs.Answer.{Answer}
use Rattle.specification.specs.Call.{Call}
use Rattle.specification.specs.Step.{step}

-- a call or tick with its answer
pub record Event : Type 0 where
  pub call : Call
  pub answer : Answer

-- the calls and ticks with their answers, in order, and the tables after them
pub record Run : Type 0 where
  pub events : List Event
  pub tables : Tables

-- "Each call or tick gets the three tables as the one before left them, refused or not."
unfoldable pub run : Tables → List Call → Run
run t [] = record { events = []; tables = t }
run t (c ∷ cs) =
    let o = step t c in
    let rest = run o.after cs in
    record { events = record { call = c; answer = o.answer } ∷ rest.events; tables = rest.tables }

-- "priorities of 1 to 255", of 32 tasks
unfoldable pub good_priorities : List ℕ → Bool
good_priorities priorities = eqb (length priorities) task_count && every (λ t p. within 1 255 p) priorities

-- "It starts on fresh tables."
unfoldable pub fresh_tables : (priorities : List ℕ) → Tables
fresh_tables priorities = encode (fresh priorities)
