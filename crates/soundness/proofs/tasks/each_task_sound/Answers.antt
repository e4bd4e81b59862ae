-- `soundness::tasks::each_task_sound` meets its contract. Assumes nothing.
use Rattle.std.proofs.Common.{rules, arith, ◌<◌, ◌≡◌, length}
use Rattle.std.proofs.lemmas.Iterator.Adapters.{serves_from_places}
use Rattle.records.specs.Layout.{task_count, task_width}
use Rattle.records.specs.Records.{fresh_task}
use Rattle.records.specs.Bytes.{decode_task}
use Rattle.soundness.specs.Parts.{only_queues, task_tests}
use Rattle.soundness.proofs.EachRecord.{yields-records, record-of, every-chunk}
use Rattle.soundness.proofs.tasks.each_task_sound.Goals as goal

pub all-requires-clause-callable : goal.all-requires-clause-callable
all-requires-clause-callable c =
    let t = c.args.tasks.now in
    serves_from_places (yields-records task_count task_width t (omega arith) c.requires.1 c.enumerate.result (cc) (cc) (cc)) (λ x q k. search rules)
    (λ x i lt e. let h : (x.0 < task_count) × (length x.1.now ≡ task_width) = record-of task_count task_width t c.requires.1 _ i lt e in search rules)

pub returns : goal.returns
returns c =
    let t = c.args.tasks.now in
    every-chunk (task_tests (only_queues c.args.queues.now)) decode_task task_count task_width t (fresh_task 1) _ _ _ _ c.all.ensures.ran
    (yields-records task_count task_width t (omega arith) c.requires.1 c.enumerate.result (cc) (cc) (cc)) (λ x b q k. search rules)
