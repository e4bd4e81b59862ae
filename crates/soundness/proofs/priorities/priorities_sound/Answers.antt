-- `soundness::priorities::priorities_sound` meets its contract. Assumes nothing.
use Rattle.std.proofs.Common.{rules, ◌≡◌, true}
use Rattle.std.proofs.lemmas.Iterator.{serves_from_Range}
use Rattle.records.specs.Layout.{slot_count, queue_width}
use Rattle.records.specs.Records.{free_queue}
use Rattle.records.specs.Bytes.{decode_queue, decode_queue_at}
use Rattle.soundness.specs.declared.ranked.Members.TheVariants.{Waiters}
use Rattle.soundness.specs.Parts.{only_tasks, task_positions, queue_ranked, queue_in_order}
use Rattle.soundness.proofs.EachRecord.{passes-at, every-record}
use Rattle.soundness.proofs.priorities.priorities_sound.Goals as goal

pub all-requires-clause-callable : goal.all-requires-clause-callable
all-requires-clause-callable c =
    let t = c.args.queues.now in
    let ps = task_positions c.args.tasks.now in
    serves_from_Range (λ x q k. search rules)
    (λ i low high.
    let ranks : queue_ranked Waiters ps i (decode_queue_at i t) ≡ true = passes-at (queue_ranked Waiters ps) decode_queue slot_count queue_width t (free_queue 0) c.requires.1.1 i high in
    search rules)

pub returns : goal.returns
returns c =
    every-record (queue_in_order (only_tasks c.args.tasks.now)) decode_queue slot_count queue_width c.args.queues.now (free_queue 0) _ _ _ c.all.ensures.ran (λ i b q k. search rules)
