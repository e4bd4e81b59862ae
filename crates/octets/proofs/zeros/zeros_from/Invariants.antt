-- `octets::zeros::zeros_from` meets its contract. Assumes nothing.
use mathlib.Core.Path.{◌≡◌}
use lib.ListN.{drop}
use Rattle.ranks.specs.Lists.{all_zero}
use Rattle.octets.proofs.zeros.zeros_from.Given as goal

abbrev pub invariant-loop-at : goal.invariant-loop-at
invariant-loop-at l = all_zero (drop l.at l.t) ≡ all_zero (drop l.from l.t)
