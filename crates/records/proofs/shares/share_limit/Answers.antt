-- `records::shares::share_limit` meets its contract. Assumes nothing.
use mathlib.Core.Path.{refl}
use Rattle.ranks.specs.Lists
use Rattle.records.specs.Split
use Rattle.records.proofs.Tabled.{agree}
use Rattle.records.proofs.shares.share_limit.Goals as goal

pub returns : goal.returns
unfolding Lists.numbers_from Split.share_limit
returns c = agree (λ i. 16) Split.share_limit Split.share_count refl c.args.share c.requires
