-- `coremsg::ticks::expired_mask` meets its contract. Assumes nothing.
use mathlib.Core.Path.{◌∙◌}
use Rattle.std.proofs.Common.{rules}
use Rattle.specification.specs.Tick.{expires}
use Rattle.threadq.proofs.MaskFolds.{mask_of-tasks}
use Rattle.coremsg.proofs.ticks.expired_mask.Goals as goal

pub returns : goal.returns
returns c =
    let made = c.mask_of.ensures in
    made.3 ∙ mask_of-tasks expires c.args.tasks.now made.0 made.1 (λ t h. let k = made.2 t h in search rules)
