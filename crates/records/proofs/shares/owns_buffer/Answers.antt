-- `records::shares::owns_buffer` meets its contract. Assumes nothing.
use Prim.Native.Nat.{◌/◌}
use mathlib.Core.Path.{refl, ap}
use lib.Dec.{eqb}
use Rattle.ranks.specs.Lists
use Rattle.records.specs.Layout.{buffer_count}
use Rattle.records.specs.Split
use Rattle.records.proofs.Tabled.{agree}
use Rattle.records.proofs.shares.owns_buffer.Goals as goal

pub returns : goal.returns
unfolding Lists.numbers_from Lists.first_true Split.share_of_buffer
returns c = ap (eqb c.args.share) (agree (λ i. i / 16) Split.share_of_buffer buffer_count refl c.args.b c.requires)
