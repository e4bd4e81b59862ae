-- `soundness::tasks::waiting_task_sound` meets its contract. Assumes nothing.
use mathlib.Core.Path.{ap₂}
use mathlib.Core.Bool.{Bool}
use lib.Dec.{eqb}
use Rattle.records.specs.Bytes.{decode_task}
use Rattle.soundness.proofs.Cases.{waiting-tests}
use Rattle.soundness.proofs.tasks.waiting_task_sound.Goals as goal

pub returns : goal.returns
unfolding decode_task
returns c =
    waiting-tests c.args.q c.args.slot c.args.t (decode_task c.args.r.now) c.requires.0 c.requires.1.1.1 c.zeros_at.ensures c.zeros_at-2.ensures
    (ap₂ {C = Bool} eqb c.share_of_slot.ensures c.share_of_task.ensures) c.is_live.ensures c.is_open.ensures
