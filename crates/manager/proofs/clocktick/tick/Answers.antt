-- `manager::clocktick::tick` meets its contract. Assumes nothing.
use native.Mathlib.Omega.{arith}
use Rattle.std.proofs.Common.{rules}
use Rattle.manager.proofs.Ticks.{none_ticked, each_task, one_more_ticked}
use Rattle.manager.proofs.clocktick.tick.Goals as goal

pub loop-t-init : goal.loop-t-init
loop-t-init c = none_ticked _ _ _ c.requires.1 (search rules) (search rules)

pub tick_task-requires : goal.tick_task-requires
tick_task-requires c = each_task _ _ _ _ _ _ c.loop-t.invariant c.requires.0 _ (omega arith)

pub loop-t-preserved : goal.loop-t-preserved
loop-t-preserved c =
    let done = c.tick_task in
    one_more_ticked _ _ _ _ _ _ c.loop-t.invariant _ _ (omega arith) done.auto.queues done.auto.tasks (search rules) (search rules) (done.ensures.1 c.args.pool.now)
