-- `differences::record_difference::differing_count`. Assumes nothing.
use Rattle.std.proofs.Common.{◌∙◌, zip, rules, tests}
use Rattle.std.proofs.lemmas.Iterator.{YieldsList-from_slice, YieldsList-from_zip}
use Rattle.std.proofs.lemmas.Iterator.Consumers.{fold_from_yields_List, YieldsList-at}
use Rattle.std.proofs.lemmas.Slice.Zip.{length-zip}
use native.Mathlib.Omega.{arith}
use Rattle.differences.proofs.DifferingPlaces.{with_pair, folded-from-0}
use Rattle.differences.proofs.record_difference.differing_count.Goals as goal

pub returns : goal.returns
returns c =
    let one = c.args.one.now in
    let two = c.args.two.now in
    let pairs = YieldsList-from_zip (YieldsList-at c.zip.ensures.first (YieldsList-from_slice one cc)) (YieldsList-from_slice two c.zip.ensures.second.0) in
    fold_from_yields_List _ with_pair 0 c.fold.result c.fold.ensures.ran pairs (λ n p m q called. search (rules, tests))
    ∙ folded-from-0 (zip one two) (omega (arith, length-zip one two, c.requires))
