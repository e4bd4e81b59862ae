-- `ranks::first` meets its contract. Assumes nothing.
use mathlib.Core.List.{[]}
use mathlib.Core.Path.{refl}
use Rattle.std.proofs.Common.{rules}
use Rattle.ranks.specs.Position.{stands_at}
use Rattle.ranks.specs.Table.{records, position_in}
use Rattle.ranks.proofs.Searches.{found-in_Range}
use Rattle.ranks.proofs.Table.{length-records}
use Rattle.ranks.proofs.first.Goals as goal

pub returns : goal.returns
returns c =
    let a = c.args in
    let n = a.positions in
    found-in_Range (λ i r. stands_at a.slot 0 (position_in n.place r)) (records n.count n.stride a.t.now) [] (length-records n.count n.stride a.t.now) _ _ _ _ refl c.find.ensures.ran
    (λ i b q called. search rules)
