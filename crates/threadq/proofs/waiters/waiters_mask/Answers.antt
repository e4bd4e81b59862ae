-- `threadq::waiters::waiters_mask` meets its contract. Assumes nothing.
use mathlib.Core.Path.{◌∙◌}
use Rattle.std.proofs.Common.{rules}
use Rattle.ranks.specs.Position.{in_queue}
use Rattle.specification.specs.Lookup.{waiters_of}
use Rattle.threadq.proofs.MaskFolds.{mask_of-tasks}
use Rattle.threadq.proofs.waiters.waiters_mask.Goals as goal

pub returns : goal.returns
unfolding waiters_of
returns c =
    let made = c.mask_of.ensures in
    made.3 ∙ mask_of-tasks (λ w. in_queue c.args.slot w.position) c.args.tasks.now made.0 made.1 (λ t h. let k = made.2 t h in search rules)
