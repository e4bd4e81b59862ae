-- `records::shares::share_of_task` meets its contract. Assumes nothing.
use Prim.Native.Nat.{◌/◌}
use mathlib.Core.Path.{refl}
use Rattle.ranks.specs.Lists
use Rattle.records.specs.Layout.{task_count}
use Rattle.records.specs.Split
use Rattle.records.proofs.Tabled.{agree}
use Rattle.records.proofs.shares.share_of_task.Goals as goal

pub returns : goal.returns
unfolding Lists.numbers_from Lists.first_true Split.share_of_task
returns c = agree (λ i. i / 8) Split.share_of_task task_count refl c.args.task c.requires
