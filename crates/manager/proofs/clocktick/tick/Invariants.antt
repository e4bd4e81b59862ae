-- `manager::clocktick::tick` meets its contract. Assumes nothing.
use Rattle.manager.proofs.Ticks.{TickedBelow}
use Rattle.manager.proofs.clocktick.tick.Given as goal

abbrev pub invariant-loop-t : goal.invariant-loop-t
invariant-loop-t l = TickedBelow l.initial.queues l.pool l.initial.tasks l.queues l.tasks l.t
