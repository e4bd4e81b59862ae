-- `records::shares::share_of_slot` meets its contract. Assumes nothing.
use Prim.Native.Nat.{◌/◌}
use mathlib.Core.Path.{refl}
use Rattle.ranks.specs.Lists
use Rattle.records.specs.Layout.{slot_count}
use Rattle.records.specs.Split
use Rattle.records.proofs.Tabled.{agree}
use Rattle.records.proofs.shares.share_of_slot.Goals as goal

pub returns : goal.returns
unfolding Lists.numbers_from Lists.first_true Split.share_of_slot
returns c = agree (λ i. i / 4) Split.share_of_slot slot_count refl c.args.slot c.requires
