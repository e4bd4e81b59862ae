-- The places at which two records differ, as a walk over the pairs of their bytes finds them. Assumes nothing.
use Rattle.std.proofs.Common.{ℕ, ◌≡◌, ◌+◌, ◌%◌, ◌<◌, ◌≤◌, List, [], ◌∷◌, not, Bool, true, false, cond, refl, sym, ◌∙◌, length, count_by, zip}
use Rattle.std.specs.List.{fold, prefix_len}
use Rattle.std.proofs.lemmas.List.Sums.{sum_by-cons}
use native.Mathlib.Omega.{arith}
use lib.Dec.{eqb}
use Rattle.ranks.specs.Lists.{count_true, first_true}
use Rattle.octets.specs.LittleEndian.{byte_values}
use Rattle.differences.specs.Differences.{differ_at}

abbrev pub unequal : ℕ × ℕ → Bool
unequal p = not (eqb p.0 p.1)

more : (b : Bool) (bs : List Bool) (n : ℕ) → count_true bs ≡ n → count_true (b ∷ bs) ≡ cond b 1 0 + n
unfolding count_true
more true bs n e = omega (arith, e)
more false bs n e = omega (arith, e)

further : (b : Bool) (bs : List Bool) (n : ℕ) → first_true bs ≡ n → first_true (not b ∷ bs) ≡ cond b (1 + n) 0
unfolding first_true
further true bs n e = omega (arith, e)
further false bs n e = refl

pub counted : (xs ys : List ℕ) → count_true (differ_at xs ys) ≡ count_by unequal (zip xs ys)
unfolding count_true differ_at
counted [] ys = refl
counted (x ∷ xs) [] = refl
counted (x ∷ xs) (y ∷ ys) =
    more (unequal (x, y)) (differ_at xs ys) _ (counted xs ys) ∙ sym (sum_by-cons (λ (p : ℕ × ℕ). cond (unequal p) 1 0) (x, y) (zip xs ys))

pub placed : (xs ys : List ℕ) → first_true (differ_at xs ys) ≡ prefix_len (λ p. eqb p.0 p.1) (zip xs ys)
unfolding first_true differ_at
placed [] ys = refl
placed (x ∷ xs) [] = refl
placed (x ∷ xs) (y ∷ ys) = further (eqb x y) (differ_at xs ys) _ (placed xs ys)

-- a count of 8 bits, and one more if the bytes of a pair differ
abbrev pub with_pair : ℕ → ℕ × ℕ → ℕ
with_pair n p = (n + cond (unequal p) 1 0) % byte_values

one_or_none : (b : Bool) → cond b 1 0 ≤ 1
one_or_none true = omega arith
one_or_none false = omega arith

-- it does not wrap where there are fewer than 256 pairs
folded : (n : ℕ) (ps : List (ℕ × ℕ)) → n + length ps < byte_values → fold with_pair n ps ≡ n + count_by unequal ps
folded n [] h = omega arith
folded n (p ∷ ps) h =
    let small = one_or_none (unequal p) in
    let now : with_pair n p ≡ n + cond (unequal p) 1 0 = omega (arith, small, h) in
    let rest = folded (with_pair n p) ps (omega (arith, small, now, h)) in
    let all = sum_by-cons (λ (p : ℕ × ℕ). cond (unequal p) 1 0) p ps in
    omega (arith, now, rest, all)

pub folded-from-0 : (ps : List (ℕ × ℕ)) → length ps < byte_values → fold with_pair 0 ps ≡ count_by unequal ps
folded-from-0 ps h = omega (arith, folded 0 ps (omega arith))
