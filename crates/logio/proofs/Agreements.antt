-- How far two lists agree, as a walk over the pairs of their entries finds it. Assumes nothing.
use Rattle.std.proofs.Common.{ℕ, ◌≡◌, ◌+◌, List, [], ◌∷◌, Bool, true, false, cond, suc, refl, zip, arith}
use Rattle.std.specs.List.{prefix_len}
use Rattle.std.specs.Prelude.{if◌then◌else◌}
use lib.Dec.{eqb}
use Rattle.logio.specs.Agreeing.{agreement}

further : (b : Bool) (m n : ℕ) → m ≡ n → (if b then suc m else 0) ≡ cond b (1 + n) 0
further true m n e = omega (arith, e)
further false m n e = refl

pub agreed : (xs ys : List ℕ) → agreement xs ys ≡ prefix_len (λ p. eqb p.0 p.1) (zip xs ys)
unfolding agreement
agreed [] ys = refl
agreed (x ∷ xs) [] = refl
agreed (x ∷ xs) (y ∷ ys) = further (eqb x y) _ _ (agreed xs ys)
