-- Document 01: demand 3, and of demand 2 that ids are distinct and no call is answered 10, for logs replayed from fresh tables; and the two logs
-- whose answers it spells out. A call's answer is what its answer record says (`events_of`).
use Rattle.std.specs.Prelude.{ℕ, ◌<◌, ◌≡◌, true, not, ◌||◌, List, [], ◌∷◌, ◌++◌, map, get_or, replicate, eqb}
use Rattle.ranks.specs.Lists.{all_true, numbers_from}
use Rattle.records.specs.Split.{share_of_task}
use Rattle.records.specs.Layout.{task_count, capacity}
use Rattle.octets.specs.LittleEndian.{to_little_endian}
use Rattle.records.specs.Bytes.{Tables}
use Rattle.records.specs.InRange.{AllBytes}
use Rattle.records.specs.Status.{CORRUPT, BAD-SHAPE}
use Rattle.specification.specs.Run.{Event, good_priorities, fresh_tables}
use Rattle.theorems.specs.Demands.{issued, distinct}
use Rattle.theorems.specs.Noninterference.{purge, is_confined, observations, wakes_no_task_of, SameRecords}
use Rattle.runs.specs.ReplayedRun.{calls_in, events_of}
use Rattle.runs.specs.Replay.{replayed}

-- of two logs replayed from fresh tables, what `Noninterference` says of two runs
pub record LogsNoninterference (x : ℕ) (ps ps' log log' : List ℕ) : Type 0 where
  pub observations-equal : observations x (events_of (fresh_tables ps) log) ≡ observations x (events_of (fresh_tables ps') log')
  pub wakes-none : all_true (map (wakes_no_task_of x) (events_of (fresh_tables ps) log)) ≡ true
  pub wakes-none' : all_true (map (wakes_no_task_of x) (events_of (fresh_tables ps') log')) ≡ true
  pub records-equal : SameRecords x (replayed (fresh_tables ps) log).after (replayed (fresh_tables ps') log').after

-- ---- The two logs of document 01

-- the log of a create by task 0 with limit 2, max size 8, attributes 0 and this name
abbrev pub create_log : (name : ℕ) → List ℕ
create_log name = 1 ∷ 0 ∷ 0 ∷ 0 ∷ to_little_endian 4 name ++ (0 ∷ 0 ∷ 0 ∷ 0 ∷ 2 ∷ 8 ∷ 0 ∷ 0 ∷ replicate capacity 0)

pub record ReplayDemands : Type 0 where
  -- Demand 3: X's tasks have equal priorities, X is confined, and "what is left of the two lists is equal once every call that isn't X's is struck out"
  pub demand-3 : (x : ℕ) (ps ps' log log' : List ℕ)
      → good_priorities ps ≡ true
      → good_priorities ps' ≡ true
      → ((t : ℕ) → t < task_count → share_of_task t ≡ x → get_or ps t 0 ≡ get_or ps' t 0)
      → AllBytes log
      → AllBytes log'
      → purge x (calls_in log) ≡ purge x (calls_in log')
      → all_true (map (is_confined x) (purge x (calls_in log))) ≡ true
      → LogsNoninterference x ps ps' log log'
  -- "no id is issued twice"
  pub ids-distinct : (ps log : List ℕ) → good_priorities ps ≡ true → AllBytes log → distinct (issued (events_of (fresh_tables ps) log)) ≡ true
  -- no call of a log is answered 10 or 16; a malformed record, which is no call, is answered 16
  pub never-corrupt : (ps log : List ℕ) → good_priorities ps ≡ true → AllBytes log
      → all_true (map (λ (e : Event). not (eqb e.answer.status CORRUPT || eqb e.answer.status BAD-SHAPE)) (events_of (fresh_tables ps) log)) ≡ true
  -- "An empty log writes nothing."
  pub empty : (t : Tables) → replayed t [] ≡ record { answers = []; after = t }
  -- "The program starts fresh with priority t+1 for task t." "A log of one create by task 0 (limit 2, max size 8, attributes 0, name not 0) writes
  -- exactly `00 01 00 00 10 00 00 00 00 00 00 00 00 00 00 00`."
  pub one-create : (name : ℕ) → name < 4294967296 → (name ≡ 0 → ⊥)
      → (replayed (fresh_tables (numbers_from 1 task_count)) (create_log name)).answers
      ≡ 0x00 ∷ 0x01 ∷ 0x00 ∷ 0x00 ∷ 0x10 ∷ 0x00 ∷ 0x00 ∷ 0x00 ∷ 0x00 ∷ 0x00 ∷ 0x00 ∷ 0x00 ∷ 0x00 ∷ 0x00 ∷ 0x00 ∷ 0x00 ∷ []
