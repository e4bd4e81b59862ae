-- A log whose answer records have room. Assumes nothing.
use native.Mathlib.Omega.{arith}
use Prim.Native.Nat.{ℕ, ◌+◌, ◌*◌, ◌≤◌}
use mathlib.Core.List.{List, [], ◌++◌}
use mathlib.Core.Path.{◌≡◌, refl, sym, ap, ◌∙◌}
use lib.ListN.{length, take, drop, length-append}
use lib.Seq.{take_at}
use Rattle.ranks.specs.Table.{spliced, records}
use Rattle.records.specs.Bytes.{Tables}
use Rattle.calllog.specs.CallLog.{record_width, answer_width, record_count}
use Rattle.runs.specs.Replay.{Replayed, replay_records, records_of, replayed, replayed_front}

-- a part of a log has no more records
pub no_more : {n m : ℕ} → n ≤ m → record_count n ≤ record_count m
unfolding record_count
no_more h = omega arith

-- the answers to a log stand at the front of the lent bytes
pub front-answers : (t : Tables) (log lent : List ℕ) (end : ℕ) {answers : List ℕ} {after : Tables} → end ≡ length (replayed t log).answers
    → (record { answers = answers; after = after }) ≡ replayed_front t log lent
    → (end ≤ length answers) × ((record { answers = take end answers; after = after }) ≡ replayed t log)
unfolding replayed_front spliced
front-answers t log lent end {answers} {after} is e =
    let all = (replayed t log).answers in
    let rest = drop (0 + length all) lent in
    let written : answers ≡ all ++ rest = ap (λ (r : Replayed). r.answers) e in
    let front : take end answers ≡ all = ap (take end) written ∙ take_at all rest end (sym is) in
    (omega (arith, is, ap length written, length-append all rest), λ j. record { answers = front j; after = (e j).after })

-- the answers to no more than k records have room
pub records-room : {n m : ℕ} (k : ℕ) → n ≤ k * record_width → k * answer_width ≤ m → record_count n * answer_width ≤ m
unfolding record_count
records-room k h room = omega arith

-- no bytes of a log are no records
pub none-replayed : (t : Tables) (room : List ℕ) → (record { answers = room; after = t }) ≡ replayed_front t [] room
unfolding replayed_front replayed records_of record_count records replay_records spliced
none-replayed t room = refl
