-- A search of a table for the first record that passes a test. Assumes nothing.
use Prim.Native.Nat.{ℕ, ◌*◌, ◌≤◌, ◌<◌}
use native.Mathlib.Omega.{arith}
use mathlib.Core.Path.{◌≡◌, sym, ap, ap₂, ◌∙◌}
use mathlib.Core.Logic.{⊎_elim}
use mathlib.Core.Bool.{Bool, true, false}
use mathlib.Core.List.{List, [], map}
use denote.Param.Members.{Mut}
use denote.Ref.{Bor}
use lib.Dec.{eqb}
use lib.ListN.{length, get_or, length-map}
use Rattle.std.specs.Prelude.{Option, None, Some}
use Rattle.std.specs.declared.ops.Range.{Range}
use Rattle.std.specs.Fn.{CalledAt}
use Rattle.std.specs.Iterator.{FindsItem}
use Rattle.std.specs.Option.{MatchOption}
use Rattle.std.proofs.iter.Yields.{nat_range_steps}
use Rattle.std.proofs.lemmas.Iterator.{first_from_Range}
use Rattle.ranks.specs.Lists.{map_with_index, first_true, find_index, found_below}
use Rattle.ranks.specs.Position.{Position, stands_at}
use Rattle.ranks.specs.Steps.{record_at, first_at}
use Rattle.ranks.specs.Table.{slice, records, position_in}
use Rattle.ranks.proofs.Lists.{at-mapped, length-mapped, mapped-cong, first-true}
use Rattle.ranks.proofs.Searches.{is-found}
use Rattle.ranks.proofs.Table.{length-records}
use Rattle.ranks.proofs.Tests.{same?, lt-or-ge}
use borrow.Author.Tests.{ne_eqb}
use Rattle.records.proofs.Access.{at_map}
use Rattle.records.proofs.Writing.{at_table}

pub swapped : (m n : ℕ) → eqb m n ≡ eqb n m
swapped m n = ⊎_elim (λ (e : m ≡ n). ap₂ eqb e (sym e)) (λ ne. ne_eqb m n ne ∙ sym (ne_eqb n m (λ e. ne (sym e)))) (same? m n)

module _ {A : Type 0} (read : List ℕ → A) (d : A) (k n : ℕ) (test : ℕ → A → Bool) (t : List ℕ) where
  -- the test of record i
  abbrev pub at : ℕ → Bool
  at i = test i (read (slice (i * n) n t))

  table-size : length (map read (records k n t)) ≡ k
  table-size = length-map (records k n t) read ∙ length-records k n t

  tested : (i : ℕ) → i < k → test i (get_or (map read (records k n t)) i d) ≡ at i
  tested i h = ap (test i) (at_table read k n t i h d)

  module _ (i : ℕ) (before : (j : ℕ) → j < i → at j ≡ false) where
    -- none before record i passes, nor any from it on
    none_of : (m : ℕ) → m ≤ k → ((j : ℕ) → i ≤ j → j < m → at j ≡ false) → (j : ℕ) → 0 ≤ j → j < m → test j (get_or (map read (records k n t)) j d) ≡ false
    none_of m h none j _ below = tested j (omega arith) ∙ ⊎_elim (λ (lt : j < i). before j lt) (λ (le : i ≤ j). none j le below) (lt-or-ge j i)

    -- what a search from record i on found
    search-from : (r : Option ℕ) → MatchOption r ((j : ℕ) → i ≤ j → j < k → at j ≡ false) (λ x. (i ≤ x) × (x < k) × (at x ≡ true) × ((j : ℕ) → i ≤ j → j < x → at j ≡ false))
        → r ≡ found_below k (find_index test (map read (records k n t)))
    search-from None none = is-found test (map read (records k n t)) d table-size None (none_of k (omega arith) none)
    search-from (Some x) (from, below, passes, none) =
        is-found test (map read (records k n t)) d table-size (Some x) (omega arith, below, tested x below ∙ passes, none_of x (omega arith) none)

    -- what `find` over the numbers from i on found, where each call tells whether the record passes
    pub found-from : {F : Type 0} {g : Mut F (Bor ℕ × Unit {0}) Bool} (u : Range ℕ) (f : F) (r : Option ℕ) → FindsItem nat_range_steps g (record { start = i; end = k }) f r u
        → ((x : ℕ) (b : Bool) (q : F) → CalledAt g f x b q → (q ≡ f) × (b ≡ at x)) → r ≡ found_below k (find_index test (map read (records k n t)))
    found-from u f r ran call =
        search-from r
        (first_from_Range _ u f r (λ j. at j ≡ true) (λ j. at j ≡ false) ran (λ x q h. sym (call x true q h).1) (λ x q h. let (e, s) = call x false q h in (e, sym s)))

  -- what `find` over all of the numbers found
  pub found-in : {F : Type 0} {g : Mut F (Bor ℕ × Unit {0}) Bool} (u : Range ℕ) (f : F) (r : Option ℕ) → FindsItem nat_range_steps g (record { start = 0; end = k }) f r u
      → ((x : ℕ) (b : Bool) (q : F) → CalledAt g f x b q → (q ≡ f) × (b ≡ at x)) → r ≡ found_below k (find_index test (map read (records k n t)))
  found-in = found-from 0 (λ j lt. absurd (omega arith))

  -- the record that was found passes the test
  pub search-found : (i : ℕ) → i < k → i ≡ find_index test (map read (records k n t)) → at i ≡ true
  search-found i h e =
      sym (at-mapped test (map read (records k n t)) i d false (omega (arith, table-size)) ∙ tested i h)
      ∙ ap (λ (j : ℕ). get_or (map_with_index test (map read (records k n t))) j false) e
      ∙ first-true (map_with_index test (map read (records k n t))) (omega (arith, e, table-size, length-mapped test (map read (records k n t))))

-- the first of a queue, by its bytes and by the records
pub first-decoded : {A : Type 0} (read : List ℕ → A) (position : A → Position) (place k n slot : ℕ) (t : List ℕ) (d : A)
    → ((r : List ℕ) → position_in place r ≡ position (read r)) → first_at place slot (records k n t) ≡ record_at position slot 0 (map read (records k n t))
first-decoded read position place k n slot t d same =
    ap first_true
    (mapped-cong (λ j r. stands_at slot 0 (position_in place r)) (λ j x. stands_at slot 0 (position x)) (records k n t) (map read (records k n t)) [] d false
    (sym (length-map (records k n t) read))
    (λ i h. ap (stands_at slot 0) (same (get_or (records k n t) i []) ∙ ap position (sym (at_map read (records k n t) i [] d h)))))
