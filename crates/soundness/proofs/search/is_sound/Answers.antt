-- `soundness::search::is_sound` meets its contract. Assumes nothing.
use Rattle.std.proofs.Common.{arith}
use Rattle.soundness.proofs.Whole.{sound-parts}
use Rattle.soundness.proofs.search.is_sound.Goals as goal

pub returns-then-tasks_sound : goal.returns-then-tasks_sound
returns-then-tasks_sound c = let whole = sound-parts c.args.queues.now c.args.pool.now c.args.tasks.now in grind (arith, whole)

pub returns-else-tasks_sound : goal.returns-else-tasks_sound
returns-else-tasks_sound c = let whole = sound-parts c.args.queues.now c.args.pool.now c.args.tasks.now in grind (arith, whole)
