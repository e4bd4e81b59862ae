-- `records::shares::first_buffer` meets its contract. Assumes nothing.
use Prim.Native.Nat.{◌*◌}
use mathlib.Core.Path.{refl}
use Rattle.ranks.specs.Lists
use Rattle.records.specs.Split
use Rattle.records.proofs.Tabled.{agree}
use Rattle.records.proofs.shares.first_buffer.Goals as goal

pub returns : goal.returns
unfolding Lists.numbers_from Split.first_buffer
returns c = agree (λ i. i * 16) Split.first_buffer Split.share_count refl c.args.share c.requires
