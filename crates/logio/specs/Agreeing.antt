-- How far two lists agree.
use Rattle.std.specs.Prelude.{ℕ, suc, List, [], ◌∷◌, eqb, if◌then◌else◌}

-- how many entries at the front are the same in both
unfoldable pub agreement : List ℕ → List ℕ → ℕ
agreement [] ys = 0
agreement (x ∷ xs) [] = 0
agreement (x ∷ xs) (y ∷ ys) = if eqb x y then suc (agreement xs ys) else 0
