-- Document 01, "The call log": what a reader yields.
use Rattle.std.specs.Prelude.{◌≡◌, ◌<◌, ◌≤◌, length, Option, MatchOption}
use Rattle.ranks.specs.Table.{slice}
use Rattle.calllog.specs.CallLog.{record_width, reading_at}
use Rattle.calllog.specs.declared.call.LogResult.TheVariants.{End}
use Rattle.calllog.specs.declared.reader.LogReader.{LogReader}
use Rattle.calllog.specs.declared.reader.LogRecord.{LogRecord}

-- a reader reads at its place: it yields what stands there, with its bytes, or nothing at or past the end, and moves on
abbrev pub Reads : LogReader → Option LogRecord → LogReader → Type 0
Reads s r t =
    (t.log ≡ s.log)
    × MatchOption r
    ((length s.log.now ≤ s.at) × ((record { result = End; next = t.at }) ≡ reading_at s.log.now s.at))
    (λ x. (s.at < length s.log.now) × (x.bytes.now ≡ slice s.at record_width s.log.now) × ((record { result = x.result; next = t.at }) ≡ reading_at s.log.now s.at))
