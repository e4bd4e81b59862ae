-- `soundness::tasks::ready_task_sound` meets its contract. Assumes nothing.
use Rattle.records.specs.Bytes.{decode_task}
use Rattle.specification.specs.Sound.{task_rules, ready_task_rules}
use Rattle.soundness.proofs.Cases.{ready-tests}
use Rattle.soundness.proofs.tasks.ready_task_sound.Goals as goal

pub returns : goal.returns
unfolding task_rules ready_task_rules decode_task
returns c =
    rw (c.zeros_at.ensures, c.zeros_at-2.ensures, c.from.ensures) (ready-tests c.args.r.now _ _ _ _ _ _)
