-- Zero bytes. Assumes nothing.
use Prim.Native.Nat.{ℕ, zero, suc, ◌+◌, ◌-◌, ◌*◌, ◌≤◌, ◌<◌, min}
use native.Mathlib.Omega.{arith}
use mathlib.Core.Path.{◌≡◌, refl, sym, ap, ap₂, ◌∙◌, subst}
use mathlib.Core.Bool.{Bool, true, false, ◌&&◌, and_assoc, and-true}
use mathlib.Core.Logic.{◌⊎◌, inl, inr, ⊎_elim}
use mathlib.Core.List.{List, [], ◌∷◌, ◌++◌}
use lib.Dec.{eqb}
use lib.ListN.{length, replicate, take, drop, length-drop, drop_of_length-le}
use lib.Seq.{drop-cons, take_all}
use borrow.Author.Tests.{eq-eqb, ne_eqb}
use Rattle.ranks.specs.Lists.{all_zero}
use Rattle.ranks.specs.Table.{slice, byte}
use Rattle.ranks.proofs.Lists.{zeros-cons, zeros-nil}
use Rattle.ranks.proofs.Tests.{same?, both, lt-or-ge}
use lib.Pointwise.{pointwise}
use Rattle.octets.specs.LittleEndian.{byte_values, from_little_endian}
use Rattle.octets.proofs.NumberBytes.{slice-add, part-and-rest}

-- ---- Zeros

pub zeros-append : (xs ys : List ℕ) → all_zero (xs ++ ys) ≡ all_zero xs && all_zero ys
zeros-append [] ys = ap (λ (b : Bool). b && all_zero ys) (sym zeros-nil)
zeros-append (x ∷ xs) ys =
    zeros-cons x (xs ++ ys) ∙ ap (λ (b : Bool). eqb x 0 && b) (zeros-append xs ys)
    ∙ sym (ap (λ (b : Bool). b && all_zero ys) (zeros-cons x xs) ∙ and_assoc (eqb x 0) (all_zero xs) (all_zero ys))

pub zeros-add : (i m n : ℕ) (r : List ℕ) → all_zero (slice i m r) && all_zero (slice (i + m) n r) ≡ all_zero (slice i (m + n) r)
zeros-add i m n r = sym (ap all_zero (slice-add i m n r) ∙ zeros-append (slice i m r) (slice (i + m) n r))

pub zeros-rest : (i n : ℕ) (r : List ℕ) → all_zero (slice i n r) && all_zero (drop (i + n) r) ≡ all_zero (drop i r)
zeros-rest i n r = sym (ap all_zero (part-and-rest i n r) ∙ zeros-append (slice i n r) (drop (i + n) r))

-- the last `n` bytes
pub zeros-to-end : (r : List ℕ) (i n : ℕ) → i + n ≡ length r → all_zero (slice i n r) ≡ all_zero (drop i r)
unfolding slice
zeros-to-end r i n h = ap all_zero (take_all n (drop i r) (omega (arith, length-drop i r)))

-- a number is zero if its bytes are
pub zero_number : (bs : List ℕ) → eqb (from_little_endian bs) 0 ≡ all_zero bs
unfolding from_little_endian
zero_number [] = sym zeros-nil
zero_number (b ∷ bs) = go (same? b 0) (same? (from_little_endian bs) 0) (sym (zero_number bs)) ∙ sym (zeros-cons b bs)
  where
    go : (b ≡ 0) ⊎ (b ≡ 0 → ⊥) → (from_little_endian bs ≡ 0) ⊎ (from_little_endian bs ≡ 0 → ⊥) → all_zero bs ≡ eqb (from_little_endian bs) 0
        → eqb (b + byte_values * from_little_endian bs) 0 ≡ eqb b 0 && all_zero bs
    go (inl p) (inl q) ih =
        eq-eqb (b + byte_values * from_little_endian bs) 0 (omega arith)
        ∙ sym (ap₂ (λ (x y : Bool). x && y) (eq-eqb b 0 p) (ih ∙ eq-eqb (from_little_endian bs) 0 q))
    go (inl p) (inr q) ih =
        ne_eqb (b + byte_values * from_little_endian bs) 0 (λ e. q (omega arith))
        ∙ sym (ap₂ (λ (x y : Bool). x && y) (eq-eqb b 0 p) (ih ∙ ne_eqb (from_little_endian bs) 0 q))
    go (inr p) q ih =
        ne_eqb (b + byte_values * from_little_endian bs) 0 (λ e. p (omega arith)) ∙ sym (ap (λ (x : Bool). x && all_zero bs) (ne_eqb b 0 p))

pub zeros-one : (r : List ℕ) (i : ℕ) → i < length r → eqb (byte i r) 0 ≡ all_zero (slice i 1 r)
unfolding slice
zeros-one r i h = sym (ap (λ (l : List ℕ). all_zero (take 1 l)) (drop-cons r i 0 h) ∙ simp (zeros-cons, zeros-nil, and-true))

-- bytes that are equal to as many zeros
pub pointwise-zeros : (n : ℕ) (r : List ℕ) → length r ≡ n → pointwise eqb r (replicate n 0) ≡ all_zero r
pointwise-zeros zero [] e = sym zeros-nil
pointwise-zeros zero (b ∷ r) e = absurd (omega arith)
pointwise-zeros (suc n) [] e = absurd (omega arith)
pointwise-zeros (suc n) (b ∷ r) e = ap (λ (z : Bool). eqb b 0 && z) (pointwise-zeros n r (omega arith)) ∙ sym (zeros-cons b r)

-- what stands from a place on, which may be behind the end
pub rest-from : (n m : ℕ) (r : List ℕ) → m ≡ min n (length r) → take (length r - m) (drop m r) ≡ drop n r
rest-from n m r e =
    take_all (length r - m) (drop m r) (omega (arith, length-drop m r))
    ∙ ⊎_elim (λ (h : n < length r). ap (λ (k : ℕ). drop k r) (let f : m ≡ n = omega arith in f))
    (λ (h : length r ≤ n). drop_of_length-le r (omega arith) ∙ sym (drop_of_length-le r h)) (lt-or-ge n (length r))

-- one byte more
pub zeros-push : (r : List ℕ) (b : ℕ) → all_zero (r ++ (b ∷ [])) ≡ all_zero r && eqb b 0
zeros-push r b = zeros-append r (b ∷ []) ∙ ap (λ (z : Bool). all_zero r && z) (simp (zeros-cons, zeros-nil, and-true))

-- ---- A loop over blocks

module _ (r : List ℕ) where
  -- a block of zeros decides nothing
  pub zeros-more : (i n : ℕ) → all_zero (slice i n r) ≡ true → all_zero (drop (i + n) r) ≡ all_zero (drop i r)
  zeros-more i n e = ap (λ (z : Bool). z && all_zero (drop (i + n) r)) (sym e) ∙ zeros-rest i n r

  -- and another one decides
  pub zeros-stop : (i n : ℕ) → all_zero (slice i n r) ≡ false → all_zero (drop i r) ≡ false
  zeros-stop i n e = sym (zeros-rest i n r) ∙ ap (λ (z : Bool). z && all_zero (drop (i + n) r)) e

  pub zeros-later : (a b : ℕ) → a ≤ b → all_zero (drop a r) ≡ true → all_zero (drop b r) ≡ true
  zeros-later a b h e =
      let k : a + (b - a) ≡ b = omega arith in
      let both-zero = both (all_zero (slice a (b - a) r)) (all_zero (drop (a + (b - a)) r)) (zeros-rest a (b - a) r ∙ e) in
      subst (λ (n : ℕ). all_zero (drop n r) ≡ true) k both-zero.1

  -- what the bytes from a later place on decide, the bytes from a place between decide too
  pub zeros-between : (a b c : ℕ) → a ≤ b → b ≤ c → all_zero (drop c r) ≡ all_zero (drop a r) → all_zero (drop b r) ≡ all_zero (drop a r)
  zeros-between a b c h k e = same (all_zero (drop a r)) (all_zero (drop b r)) (zeros-later a b h) (λ p. sym e ∙ zeros-later b c k p)
    where
      same : (x y : Bool) → (x ≡ true → y ≡ true) → (y ≡ true → x ≡ true) → y ≡ x
      same true y f g = f refl
      same false true f g = sym (g refl)
      same false false f g = refl
