-- Document 01, "The call log": a log replayed over the tables, and what is written of it.
use Rattle.std.specs.Prelude.{ℕ, ◌*◌, Bool, true, false, List, [], ◌∷◌, ◌++◌, length, leb, if◌then◌else◌}
use Rattle.ranks.specs.Table.{byte, records, spliced}
use Rattle.records.specs.Bytes.{Tables}
use Rattle.calllog.specs.CallLog.{record_width, read_record, message_of, answer_width, record_count}
use Rattle.calllog.specs.declared.call.LogResult.{LogResult}
use Rattle.logged_calls.specs.LoggedCall.{outcome_for, answer_record}

-- ---- One record

-- what is written of a log, and the tables after it
pub record Replayed : Type 0 where
  pub answers : List ℕ
  pub after : Tables

-- one record of a log, or its short last part, of which the reader says this
unfoldable pub replay_found : Tables → LogResult → List ℕ → Replayed
replay_found t found r = let o = outcome_for t found (message_of r) in record { answers = answer_record o.answer (byte 0 r); after = o.after }

unfoldable pub replay_record : Tables → List ℕ → Replayed
replay_record t r = replay_found t (read_record r) r

-- ---- A whole log

-- the records one after the other, each on the tables as the one before left them
unfoldable pub replay_records : Tables → List (List ℕ) → Replayed
replay_records t [] = record { answers = []; after = t }
replay_records t (r ∷ rs) =
    let one = replay_record t r in
    let rest = replay_records one.after rs in
    record { answers = one.answers ++ rest.answers; after = rest.after }

-- a log cut into its records; the last is as long as what is left
unfoldable pub records_of : List ℕ → List (List ℕ)
records_of log = records (record_count (length log)) record_width log

unfoldable pub replayed : Tables → (log : List ℕ) → Replayed
replayed t log = replay_records t (records_of log)

-- ---- Into lent bytes

-- the answer records at the front of the lent bytes
unfoldable pub replayed_front : Tables → (log lent : List ℕ) → Replayed
replayed_front t log lent = let r = replayed t log in record { answers = spliced lent 0 r.answers; after = r.after }

-- whether the log was replayed, the lent bytes and the tables after it
pub record ReplayedInto : Type 0 where
  pub done : Bool
  pub answers : List ℕ
  pub after : Tables

abbrev pub into_lent : (done : Bool) → Replayed → ReplayedInto
into_lent done r = record { done = done; answers = r.answers; after = r.after }

-- Nothing is done where the lent bytes have no room for the answer records.
unfoldable pub replayed_into : Tables → (log lent : List ℕ) → ReplayedInto
replayed_into t log lent =
    if leb (record_count (length log) * answer_width) (length lent) then into_lent true (replayed_front t log lent) else into_lent false (record { answers = lent; after = t })
