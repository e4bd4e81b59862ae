-- The cases of the call log hold: each side is computed. Assumes nothing.
use mathlib.Core.Path.{◌≡◌, refl}
use mathlib.Core.List.{map}
use Rattle.ranks.specs.Lists.{all_true, all_zero}
use Rattle.ranks.specs.Table.{slice}
use Rattle.octets.specs.LittleEndian.{from_little_endian, to_little_endian}
use Rattle.calllog.specs.CallLog.{rows, row_of, names, keeps_row, call_with, call_in, read_record, read_at, place_after, reading_at, answer_bytes}
use Rattle.calllog.specs.LogCases.{call_record_cases, example_log, place_cases, create_answer, LogCasesHold}

call-record-cases : map (λ k. read_record k.bytes) call_record_cases ≡ map (λ k. k.result) call_record_cases
unfolding rows row_of names keeps_row call_with call_in read_record all_true all_zero slice from_little_endian call_record_cases
call-record-cases = refl

place-cases : map (λ k. reading_at example_log k.place) place_cases ≡ map (λ k. k.expected) place_cases
unfolding rows row_of names keeps_row call_with call_in read_record read_at place_after all_true all_zero slice from_little_endian place_cases
place-cases = refl

create-answer : answer_bytes 0 1 16 0 ≡ create_answer
unfolding answer_bytes to_little_endian create_answer
create-answer = refl

pub log-cases-hold : LogCasesHold
log-cases-hold = record { records = call-record-cases; places = place-cases; answer = create-answer }
