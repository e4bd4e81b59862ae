-- `coremsg::steps::enter` meets its contract. Assumes nothing.
use Rattle.coremsg.proofs.Moves.{task_entered}
use Rattle.coremsg.proofs.steps.enter.Goals as goal

pub returns : goal.returns
returns c =
    let made = c.waiting_at in
    let a = c.args in
    task_entered a.slot a.t a.rank a.ticks a.tasks.now _ _ c.requires.1.0 c.requires.1.1.0 c.insert-at.result c.position_at.result c.read_head-h.result made.result
    c.insert-at.ensures.0 c.insert-at.ensures.1 c.position_at.ensures c.read_head-h.ensures made.ensures c.write_head.ensures
