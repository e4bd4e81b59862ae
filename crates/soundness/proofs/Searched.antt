-- Zero bytes of a record, and sums from the front: what is left to look at decides. Assumes nothing.
use Prim.Native.Nat.{ℕ, ◌+◌}
use native.Mathlib.Omega.{arith}
use mathlib.Core.Path.{◌≡◌, refl, sym, ap, ◌∙◌}
use mathlib.Core.Bool.{Bool, ◌&&◌}
use mathlib.Core.List.{List, [], ◌∷◌}
use lib.Dec.{eqb}
use lib.ListN.{length, drop, length-drop}
use lib.Seq.{drop-cons, drop-drop, take_all}
use borrow.Author.Tests.{eq-eqb}
use Rattle.std.specs.List.{sum}
use Rattle.std.proofs.lemmas.List.Sums.{sum_by-cons}
use Rattle.ranks.specs.Lists.{all_zero, sum_of}
use Rattle.ranks.proofs.Lists.{zeros-cons}
use Rattle.ranks.specs.Table.{slice, byte}
use Rattle.records.specs.Layout.{capacity, buffer_width, buffer_length, buffer_data}
use Rattle.octets.proofs.ZeroBytes.{zeros-rest}

-- ---- Zero bytes

-- ---- Sums

pub sum-is : (l : List ℕ) → sum l ≡ sum_of l
unfolding sum_of
sum-is [] = refl
sum-is (n ∷ l) = sum_by-cons (λ k. k) n l ∙ ap (λ (k : ℕ). n + k) (sum-is l)

-- ---- Parts of a buffer record

module _ (r : List ℕ) (long : length r ≡ buffer_width) where
  -- "8-127 data" is what stands from byte 8 on
  data-part : slice buffer_data capacity r ≡ drop buffer_data r
  unfolding slice
  data-part = take_all capacity (drop buffer_data r) (omega (arith, length-drop buffer_data r))

  -- what stands after a message of m bytes
  pub after-message : (m : ℕ) → all_zero (drop (buffer_data + m) r) ≡ all_zero (drop m (slice buffer_data capacity r))
  after-message m = ap all_zero (sym (ap (drop m) data-part ∙ drop-drop m 8 r))

  -- a record without an owner is zero if its other fields are
  pub all-zero : byte 0 r ≡ 0 → all_zero r ≡ (eqb (byte 1 r) 0 && (eqb (byte buffer_length r) 0 && (all_zero (slice 3 5 r) && all_zero (slice buffer_data capacity r))))
  all-zero e =
      ap all_zero (drop-cons r 0 0 (omega arith)) ∙ zeros-cons (byte 0 r) (drop 1 r) ∙ ap (λ (b : Bool). b && all_zero (drop 1 r)) (eq-eqb (byte 0 r) 0 e)
      ∙ ap all_zero (drop-cons r 1 0 (omega arith)) ∙ zeros-cons (byte 1 r) (drop 2 r)
      ∙ ap (λ (b : Bool). eqb (byte 1 r) 0 && b) (ap all_zero (drop-cons r 2 0 (omega arith)) ∙ zeros-cons (byte 2 r) (drop 3 r)
      ∙ ap (λ (b : Bool). eqb (byte 2 r) 0 && b) (sym (zeros-rest 3 5 r) ∙ ap (λ (l : List ℕ). all_zero (slice 3 5 r) && all_zero l) (sym data-part)))
