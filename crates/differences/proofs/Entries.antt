-- Laws of the entries: which records are left from a record on, and how many entries there are. Assumes nothing.
use Prim.Native.Nat.{ℕ, suc, ◌+◌, ◌-◌, ◌<◌, ◌≤◌}
use native.Mathlib.Omega.{arith}
use native.Mathlib.Numerals.{add-one}
use mathlib.Core.Path.{◌≡◌, refl, sym, ap, ◌∙◌}
use mathlib.Core.Bool.{Bool, true, false}
use mathlib.Core.Logic.{inl, inr}
use mathlib.Core.List.{List, [], ◌∷◌, map}
use lib.ListN.{length}
use borrow.Author.Tests.{lt-ltb, le-ltb, eqb-true, leb-true}
use Rattle.ranks.specs.Lists.{keep_if, numbers_from}
use Rattle.ranks.proofs.Tests.{both, either}
use Rattle.records.specs.Layout.{image_size, image_record_count}
use Rattle.records.specs.Status.{BAD-SHAPE}
use Rattle.specification.specs.Answer.{outcome, refuse_if_any}
use Rattle.differences.specs.Differences.{table_records, image_records, difference_in, differs, differences, comparable, refusals, list_filled, compared}
use Rattle.differences.specs.Comparisons.{image_record_at, difference_at, differences_from}
use Rattle.differences.specs.declared.difference.Difference.{Difference}

-- ---- From a record on

abbrev put : Bool → Difference → List Difference → List Difference
put b d ds = elim b [ true ↦ d ∷ ds | false ↦ ds ]

kept_cons : (d : Difference) (ds : List Difference) → keep_if differs (d ∷ ds) ≡ put (differs d) d (keep_if differs ds)
unfolding keep_if
kept_cons d ds = refl

module _ (one two : List ℕ) where
  pub none_after : (k : ℕ) → image_record_count ≤ k → differences_from one two k ≡ []
  unfolding differences_from numbers_from keep_if
  none_after k h = let e : image_record_count - k ≡ 0 = omega arith in rw e

  abbrev choose : ℕ → Bool → List Difference
  choose k b = put b (difference_at one two k) (differences_from one two (k + 1))

  next : (k : ℕ) → k < image_record_count → differences_from one two k ≡ choose k (differs (difference_at one two k))
  unfolding differences_from numbers_from
  next k h =
      let e : image_record_count - k ≡ suc (image_record_count - (k + 1)) = omega arith in
      rw (e, add-one k) (kept_cons (difference_at one two k) (map (difference_at one two) (numbers_from (suc k) (image_record_count - suc k))))

  module _ (k : ℕ) (d : Difference) (h : k < image_record_count) (e : d ≡ difference_at one two k) where
    pub record-differs : 0 < d.count → d ∷ differences_from one two (k + 1) ≡ differences_from one two k
    unfolding differs
    record-differs n =
        ap (λ (x : Difference). x ∷ differences_from one two (k + 1)) e
        ∙ sym (next k h ∙ ap (choose k) (ap differs (sym e) ∙ lt-ltb 0 d.count n))

    pub record-equal : d.count ≤ 0 → differences_from one two (k + 1) ≡ differences_from one two k
    unfolding differs
    record-equal n = sym (next k h ∙ ap (choose k) (ap differs (sym e) ∙ le-ltb 0 d.count n))

  -- the records are those of the tables, one after the other
  pub all-records : differences one two ≡ differences_from one two 0
  unfolding differences differences_from image_records table_records image_record_at numbers_from
  all-records = refl

-- ---- How many

kept-length : {A : Type 0} (f : A → Bool) (xs : List A) → length (keep_if f xs) ≤ length xs
unfolding keep_if
kept-length f [] = omega arith
kept-length f (x ∷ xs) = elim (either (f x)) [ inl e ↦ rw (e, keep_if) (omega (arith, kept-length f xs)) | inr e ↦ rw (e, keep_if) (omega (arith, kept-length f xs)) ]

pub few : (one two : List ℕ) → length (differences one two) ≤ image_record_count
unfolding differences image_records table_records numbers_from
few one two = kept-length differs (map (difference_in one two) image_records)

-- ---- The answer

module _ (one two : List ℕ) (list : List Difference) where
  pub shapes : comparable one two (length list) ≡ true → (length one ≡ image_size) × ((length two ≡ image_size) × (image_record_count ≤ length list))
  unfolding comparable
  shapes e =
      let (both-sizes, room-enough) = both _ _ e in
      let (p, q) = both _ _ both-sizes in
      (eqb-true (length one) image_size p, (eqb-true (length two) image_size q, leb-true image_record_count (length list) room-enough))

  pub refused : comparable one two (length list) ≡ false → outcome BAD-SHAPE 0 0 list ≡ compared one two list
  unfolding compared refusals refuse_if_any
  refused e = rw e

  pub accepted : comparable one two (length list) ≡ true → list_filled (differences one two) list ≡ compared one two list
  unfolding compared refusals refuse_if_any
  accepted e = rw e
