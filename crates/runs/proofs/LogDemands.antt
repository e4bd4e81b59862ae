-- What is proved of runs from fresh tables holds of the logs replayed from them. Assumes nothing.
use Prim.Native.Nat.{ℕ, ◌<◌}
use mathlib.Core.Path.{◌≡◌, refl, ap, ◌∙◌}
use mathlib.Core.Bool.{true, not}
use mathlib.Core.List.{List, [], ◌∷◌, ◌++◌, map}
use lib.ListN.{replicate}
use borrow.Author.Tests.{ne_eqb}
use Rattle.ranks.specs.Lists.{map_from_index, map_with_index, all_true, first_true, sum_of, within, all_zero, numbers_from}
use Rattle.ranks.specs.Table.{slice, records}
use Rattle.records.specs.Records.{State, fresh}
use Rattle.octets.specs.LittleEndian.{from_little_endian, to_little_endian}
use Rattle.records.specs.InRange.{AllBytes}
use Rattle.records.specs.Layout.{task_count}
use Rattle.records.specs.Status.{SUCCESSFUL}
use Rattle.octets.proofs.NumberBytes.{from-to-little-endian}
use Rattle.specification.specs.Answer.{Answer, Outcome}
use Rattle.specification.specs.Call.{create, call, arguments_in_range}
use Rattle.specification.specs.Step.{step}
use Rattle.specification.specs.Run.{run, fresh_tables, good_priorities}
use Rattle.specification.proofs.OnRecords.{call_on_records}
use Rattle.specification.proofs.Refused.{refuses-none}
use Rattle.specification.proofs.SoundFacts.{SoundFacts, is-sound}
use Rattle.theorems.specs.Noninterference.{Noninterference}
use Rattle.theorems.proofs.Demand2.{demand-2, layout}
use Rattle.theorems.proofs.Fresh.{priorities, fresh-sound}
use Rattle.theorems.proofs.Noninterference.{fresh-fits, demand-3}
use Rattle.theorems.proofs.OnBytes.{decode-encode}
use Rattle.theorems.proofs.SoundSteps.{answer-is}
use Rattle.calllog.specs.CallLog.{read_record, answer_bytes, message_of, record_count}
use Rattle.calllog.specs.CallLog
use Rattle.calllog.specs.declared.call.Directive.TheVariants.{Create}
use Rattle.calllog.specs.declared.call.Call.TheVariants.{By}
use Rattle.calllog.specs.declared.call.LogResult.{LogResult}
use Rattle.calllog.specs.declared.call.LogResult.TheVariants.{WellFormed}
use Rattle.logged_calls.specs.LoggedCall.{directive_of, call_of, outcome_for, answer_record}
use Rattle.runs.specs.Replay.{replay_found, replay_record, replay_records, records_of, replayed}
use Rattle.runs.specs.ReplayedRun.{calls_in, events_of, OfBytes}
use Rattle.runs.specs.LogDemands.{LogsNoninterference, create_log, ReplayDemands}
use Rattle.runs.proofs.ReplayedRuns.{log-of-bytes, calls-in-range, replay-run}
use Rattle.records.specs.Layout
use Rattle.records.specs.Split
use Rattle.specification.specs.Create
use Rattle.specification.specs.Sound
use Rattle.specification.specs.Step

-- ---- From fresh tables

fresh-of-bytes : (ps : List ℕ) → good_priorities ps ≡ true → OfBytes (fresh_tables ps)
fresh-of-bytes ps good = let b = (layout.fresh ps good).bytes in record { queues = b.queues; pool = b.pool; tasks = b.tasks }

module _ (ps log : List ℕ) (good : good_priorities ps ≡ true) (b : AllBytes log) where
  in-range : all_true (map arguments_in_range (calls_in log)) ≡ true
  in-range = calls-in-range (records_of log) (log-of-bytes log b)

  events-is : events_of (fresh_tables ps) log ≡ (run (fresh_tables ps) (calls_in log)).events
  events-is = replay-run.events (fresh_tables ps) log (fresh-of-bytes ps good) b

logs-noninterference : (x : ℕ) (ps ps' log log' : List ℕ) (good : good_priorities ps ≡ true) (good' : good_priorities ps' ≡ true) (b : AllBytes log) (b' : AllBytes log')
    → Noninterference x ps ps' (calls_in log) (calls_in log') → LogsNoninterference x ps ps' log log'
logs-noninterference x ps ps' log log' good good' b b' n =
    record {
      observations-equal = rw (events-is ps log good b, events-is ps' log' good' b') n.observations-equal;
      wakes-none = rw (events-is ps log good b) n.wakes-none;
      wakes-none' = rw (events-is ps' log' good' b') n.wakes-none';
      records-equal = rw (replay-run.after (fresh_tables ps) log, replay-run.after (fresh_tables ps') log') n.records-equal;
    }

-- ---- The log of one create

said : (name : ℕ) → name < 4294967296 → read_record (create_log name) ≡ WellFormed (By 0 (Create name 2 8 0))
unfolding read_record CallLog.call_in CallLog.call_with CallLog.keeps_row CallLog.row_of CallLog.rows CallLog.names all_true all_zero slice from_little_endian to_little_endian
said name h = ap (λ (n : ℕ). WellFormed (By 0 (Create n 2 8 0))) (from-to-little-endian 4 name h)

-- priority t+1 for task t
abbrev start : State
start = fresh (numbers_from 1 task_count)

good_start : good_priorities (numbers_from 1 task_count) ≡ true
unfolding good_priorities map_with_index map_from_index all_true within numbers_from
good_start = refl

start-sound : SoundFacts start
start-sound = fresh-sound (numbers_from 1 task_count) (priorities (numbers_from 1 task_count) good_start)

-- no reason to refuse holds, and the id is that of slot 0 with generation 1
on-records : (name : ℕ) → (name ≡ 0 → ⊥) → (call_on_records start (call 0 (create name 2 8 0))).answer ≡ record { status = SUCCESSFUL; value = Layout.id_of 1 0; woken = 0 }
unfolding call_on_records Step.common_refusals Step.own_refusals Step.directive_refusals Step.bad_caller Step.effect Create.refusals Create.free_slot Create.effect Sound.limits fresh map_with_index map_from_index all_true within numbers_from first_true sum_of Split.share_of_slot Split.share_of_task Split.share_limit Layout.id_of
on-records name ne =
    ap (λ (o : Outcome State). o.answer)
    (refuses-none start _ (Step.effect start (call 0 (create name 2 8 0)))
    (ap not (is-sound start start-sound), (refl, (ne_eqb name 0 ne, (refl, (refl, (refl, (refl, (refl, tt)))))))))

first-answer : (name : ℕ) → (name ≡ 0 → ⊥)
    → (step (fresh_tables (numbers_from 1 task_count)) (call 0 (create name 2 8 0))).answer ≡ record { status = SUCCESSFUL; value = Layout.id_of 1 0; woken = 0 }
unfolding fresh_tables
first-answer name ne =
    answer-is (fresh_tables (numbers_from 1 task_count)) (layout.fresh (numbers_from 1 task_count) good_start) (call 0 (create name 2 8 0))
    ∙ ap (λ (s : State). (call_on_records s (call 0 (create name 2 8 0))).answer) (decode-encode start start-sound.sized (fresh-fits (numbers_from 1 task_count) good_start))
    ∙ on-records name ne

one-create : (name : ℕ) → name < 4294967296 → (name ≡ 0 → ⊥)
    → (replayed (fresh_tables (numbers_from 1 task_count)) (create_log name)).answers ≡ 0x00 ∷ 0x01 ∷ 0x00 ∷ 0x00 ∷ 0x10 ∷ replicate 11 0x00
unfolding replayed replay_records replay_record replay_found records_of record_count records to_little_endian outcome_for call_of directive_of answer_bytes Layout.id_of
one-create name h ne =
    ap (λ (f : LogResult). answer_record (outcome_for (fresh_tables (numbers_from 1 task_count)) f (message_of (create_log name))).answer 1 ++ []) (said name h)
    ∙ ap (λ (a : Answer). answer_record a 1 ++ []) (first-answer name ne)

pub replay-demands : ReplayDemands
unfolding replayed records_of record_count records replay_records
replay-demands =
    record {
      demand-3 =
          λ x ps ps' log log' good good' same b b' same-calls confined.
          logs-noninterference x ps ps' log log' good good' b b'
          (demand-3 x ps ps' (calls_in log) (calls_in log') good good' same (in-range ps log good b) (in-range ps' log' good' b') same-calls confined);
      ids-distinct =
          λ ps log good b. rw (events-is ps log good b) (demand-2.ids-distinct ps (calls_in log) good (in-range ps log good b));
      never-corrupt =
          λ ps log good b. rw (events-is ps log good b) (demand-2.never-corrupt ps (calls_in log) good (in-range ps log good b));
      empty = λ t. refl;
      one-create = one-create;
    }
