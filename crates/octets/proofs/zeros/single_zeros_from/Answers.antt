-- `octets::zeros::single_zeros_from` meets its contract. Assumes nothing.
use Rattle.std.proofs.Common.{rules}
use Prim.Native.Nat.{ℕ}
use mathlib.Core.Bool.{Bool, ◌&&◌}
use lib.Dec.{eqb}
use mathlib.Core.List.{List}
use mathlib.Core.Path.{◌≡◌, sym, ap, ◌∙◌}
use Rattle.std.proofs.lemmas.Fn.{fold_over, slice_gives, fronts}
use Rattle.ranks.specs.Lists.{all_zero}
use Rattle.ranks.proofs.Lists.{zeros-nil}
use Rattle.octets.proofs.ZeroBytes.{zeros-push, rest-from}
use Rattle.octets.proofs.zeros.single_zeros_from.Goals as goal

pub returns : goal.returns
returns c =
    fold_over fronts (λ y. y.now) _ (λ (r : List ℕ) (z : Bool). z ≡ all_zero r) _ (λ r z b y f' is called. let (answer, same) : (y ≡ z && eqb b.now 0) × (f' ≡ tt) = search rules in (answer ∙ ap (λ (z : Bool). z && eqb b.now 0) is ∙ sym (zeros-push r b.now), same))
    c.iter.result _ _ _ (slice_gives c.iter.result) (sym zeros-nil) c.fold.ensures.ran
    ∙ ap all_zero (c.iter.ensures.rest ∙ rest-from c.args.from c.min.result c.args.t.now c.min.ensures)
