-- `soundness::tasks::tasks_sound` meets its contract. Assumes nothing.
use Rattle.soundness.specs.declared.ranked.Members.TheVariants.{Waiters}
use native.Mathlib.Omega.{arith}
use mathlib.Core.Path.{◌∙◌}
use Rattle.records.specs.Records.{fresh_task}
use Rattle.records.specs.Bytes.{decode_tasks}
use Rattle.specification.specs.Sound.{sound_task}
use Rattle.soundness.specs.Parts.{only_queues, task_positions}
use Rattle.soundness.proofs.RecordTests.{Table, tasks-shape, tasks-table, table-fails, ranks-below, ranks-decide, waiters-among}
use Rattle.soundness.proofs.tasks.tasks_sound.Goals.{Start}
use Rattle.soundness.proofs.tasks.tasks_sound.Goals as goal

table : (s : Start) → Table (sound_task (only_queues s.args.queues.now)) (λ w. w.position) (decode_tasks s.args.tasks.now) (fresh_task 1) (only_queues s.args.queues.now) (task_positions s.args.tasks.now)
table s = tasks-table s.args.queues.now s.args.tasks.now s.requires.1

pub every_ranked-requires : goal.every_ranked-requires
every_ranked-requires c = (
  c.requires.0,
  (
    tasks-shape c.args.tasks.now c.requires.1,
    (
      omega arith,
      (
        ranks-below (table (goal.at.every_ranked-requires c).Start) Waiters c.each_task_sound.ensures c.if-each_task_sound.true,
        waiters-among c.args.queues.now c.args.tasks.now c.requires.1,
      ),
    ),
  ),
)

pub returns-then-each_task_sound : goal.returns-then-each_task_sound
returns-then-each_task_sound c = ranks-decide (table (goal.at.returns-then-each_task_sound c).Start) Waiters c.each_task_sound.ensures c.if-each_task_sound.true c.every_ranked.ensures

pub returns-else-each_task_sound : goal.returns-else-each_task_sound
returns-else-each_task_sound c = c.if-each_task_sound.false ∙ table-fails (table (goal.at.returns-else-each_task_sound c).Start) Waiters c.each_task_sound.ensures c.if-each_task_sound.false
