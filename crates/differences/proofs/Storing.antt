-- Laws of the entries that are stored one after the other. Assumes nothing.
use Rattle.std.proofs.Common.{ℕ, ◌≡◌, ◌+◌, ◌<◌, ◌≤◌, List, [], ◌∷◌, ◌++◌, length, take, drop, append_assoc, append-nil, arith, ap, sym, ◌∙◌, refl}
use lib.ListN.{set}
use Rattle.std.proofs.lemmas.List.{take_more_set, take-append-drop, drop-set-lt, drop-drop, length-take}
use Rattle.records.specs.Layout.{image_record_count}
use Rattle.differences.specs.Differences.{differences}
use Rattle.differences.specs.Comparisons.{difference_at, differences_from}
use Rattle.differences.specs.declared.difference.Difference.{Difference}
use Rattle.differences.proofs.Entries.{all-records, none_after, record-differs, record-equal}

-- the entries of the records before record `k` are stored, `n` of them, in the list `ys`, which was `zs`
pub record Stored (one two : List ℕ) (zs ys : List Difference) (n k : ℕ) : Type 0 where
  -- those stored and those to come are all
  pub all : take n ys ++ differences_from one two k ≡ differences one two
  pub others : drop n ys ≡ drop n zs
  pub within : n ≤ k

module _ (one two : List ℕ) (zs : List Difference) where
  pub none_stored : Stored one two zs zs 0 0
  none_stored = record { all = sym (all-records one two); others = refl; within = omega arith }

  module _ (ys : List Difference) (n k : ℕ) (s : Stored one two zs ys n k) where
    module _ (d : Difference) (h : k < image_record_count) (e : d ≡ difference_at one two k) where
      pub entry_stored : 0 < d.count → n < length ys → Stored one two zs (set ys n d) (n + 1) (k + 1)
      entry_stored c i = record {
        all = rw (take_more_set ys n d i, append_assoc (take n ys) (d ∷ []) (differences_from one two (k + 1)), record-differs one two k d h e c) s.all;
        others = rw (drop-set-lt (n + 1) ys n d (omega arith), ← drop-drop 1 n ys, ← drop-drop 1 n zs) (ap (drop 1) s.others);
        within = omega (arith, s.within);
      }

      pub record_passed : d.count ≤ 0 → Stored one two zs ys n (k + 1)
      record_passed c = record {
        all = rw (record-equal one two k d h e c) s.all;
        others = s.others;
        within = omega (arith, s.within);
      }

    -- every record is passed
    module _ (h : image_record_count ≤ k) where
      all_taken : take n ys ≡ differences one two
      all_taken = sym (append-nil (take n ys)) ∙ ap (λ (ds : List Difference). take n ys ++ ds) (sym (none_after one two k h)) ∙ s.all

      pub stored_count : n ≤ length ys → n ≡ length (differences one two)
      stored_count i = omega (arith, length-take n ys, ap length all_taken)

      pub stored_list : ys ≡ differences one two ++ drop n zs
      stored_list = sym (take-append-drop n ys) ∙ rw (all_taken, s.others) refl
