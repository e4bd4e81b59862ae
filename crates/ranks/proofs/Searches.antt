-- A search of a list from the front: for the first record that passes a test, and for one that fails. Assumes nothing.
use native.Mathlib.Omega.{arith}
use mathlib.Core.List.{List}
use Prim.Native.Nat.{ℕ, ◌+◌, ◌≤◌, ◌<◌}
use mathlib.Core.Path.{◌≡◌, refl, sym, ap, ◌∙◌, subst}
use mathlib.Core.Bool.{Bool, true, false, false≢true}
use lib.ListN.{length, get_or, drop}
use mathlib.Core.Logic.{⊎_elim}
use denote.Param.Members.{Mut}
use denote.Ref.{Bor}
use Rattle.std.specs.Prelude.{Option, Some, None}
use Rattle.std.specs.declared.ops.Range.{Range}
use Rattle.std.specs.Bool.{⊤}
use Rattle.std.specs.Fn.{CalledAt}
use Rattle.std.specs.Iterator.{YieldsThen}
use Rattle.std.specs.List.{FoldsTo}
use Rattle.std.specs.Option.{MatchOption}
use Rattle.std.proofs.iter.Yields.{nat_range_steps}
use Rattle.std.proofs.lemmas.Iterator.{first_from_Range}
use Rattle.ranks.specs.Lists.{map_with_index, all_true, every, find_index, found_below}
use Rattle.ranks.proofs.FoundBelow.{found-some, found-none}
use Rattle.ranks.proofs.Tests.{lt-or-ge}
use Rattle.ranks.proofs.Lists.{at-mapped, length-mapped, first-true, first-least, all_more, all-stop, all_end}

-- Of the n records all below `i` pass, and the answer is still that they do.
pub record AllBelow {A : Type 0} (test : ℕ → A → Bool) (l : List A) (n : ℕ) (good : Bool) (i : ℕ) : Type 0 where
  pub bound : i ≤ n
  pub answer : good ≡ true
  pub so_far : every test l ≡ all_true (drop i (map_with_index test l))

-- what the code answers of record i, which it reads as x
said : {A : Type 0} (test : ℕ → A → Bool) (l : List A) (i : ℕ) (d : A) {x : A} {r b : Bool} → i < length l → get_or l i d ≡ x → r ≡ test i x → r ≡ b
    → get_or (map_with_index test l) i false ≡ b
said test l i d h at e p = at-mapped test l i d false h ∙ ap (test i) at ∙ sym e ∙ p

module _ {A : Type 0} {test : ℕ → A → Bool} {l : List A} {n : ℕ} where
  pub all-below : AllBelow test l n true 0
  all-below = record { bound = omega arith; answer = refl; so_far = refl }

  -- the answer in another variable
  pub answered : {good good' : Bool} {i : ℕ} → good' ≡ true → AllBelow test l n good i → AllBelow test l n good' i
  answered e below = record { bound = below.bound; answer = e; so_far = below.so_far }

  module _ (d : A) (long : length l ≡ n) {i : ℕ} {good : Bool} (below : AllBelow test l n good i) where
    pub one-fails : {x : A} {r : Bool} → i < n → get_or l i d ≡ x → r ≡ test i x → r ≡ false → false ≡ every test l
    one-fails h at e p = all-stop _ i below.so_far (omega (arith, length-mapped test l)) (said test l i d (omega arith) at e p)

    pub one-more-passes : {x : A} {r : Bool} → i < n → get_or l i d ≡ x → r ≡ test i x → r ≡ true → AllBelow test l n good (i + 1)
    one-more-passes h at e p =
        record { bound = omega arith; answer = below.answer; so_far = all_more _ i below.so_far (omega (arith, length-mapped test l)) (said test l i d (omega arith) at e p) }

    pub all_pass : n ≤ i → good ≡ every test l
    all_pass h = below.answer ∙ all_end _ i below.so_far (omega (arith, below.bound, length-mapped test l))

-- ---- A search that answers an option

module _ {A : Type 0} (test : ℕ → A → Bool) (l : List A) (d : A) {n : ℕ} (long : length l ≡ n) where
  -- the record that is found passes
  passes-there : find_index test l < n → test (find_index test l) (get_or l (find_index test l) d) ≡ true
  passes-there h =
      sym (at-mapped test l (find_index test l) d false (omega arith)) ∙ first-true (map_with_index test l) (omega (arith, length-mapped test l))

  -- `r` is the first number below `n` whose record passes, or none
  pub is-found : (r : Option ℕ)
      → MatchOption r ((k : ℕ) → 0 ≤ k → k < n → test k (get_or l k d) ≡ false)
      (λ i. (0 ≤ i) × (i < n) × (test i (get_or l i d) ≡ true) × ((k : ℕ) → 0 ≤ k → k < i → test k (get_or l k d) ≡ false))
      → r ≡ found_below n (find_index test l)
  is-found None none =
      sym (found-none n (find_index test l) (⊎_elim (λ (h : find_index test l < n). absurd (false≢true (sym (none _ (omega arith) h) ∙ passes-there h))) (λ (h : n ≤ find_index test l). h) (lt-or-ge (find_index test l) n)))
  is-found (Some i) (_, h, e, none) =
      let le : find_index test l ≤ i = first-least (map_with_index test l) i (at-mapped test l i d false (omega arith) ∙ e) in
      let same : find_index test l ≡ i =
      ⊎_elim (λ (lt : find_index test l < i). absurd (false≢true (sym (none _ (omega arith) lt) ∙ passes-there (omega arith)))) (λ (ge : i ≤ find_index test l). omega arith) (lt-or-ge (find_index test l) i) in
      let found : found_below n i ≡ Some i = found-some n i h in
      cc

  -- `find` over a range of numbers, whose closure says of each number whether its record passes
  pub found-in_Range : {F : Type 0} {g : Mut F (Bor ℕ × Unit {0}) Bool} (s u : Range ℕ) (f : F) (r : Option ℕ) → s ≡ record { start = 0; end = n }
      → (xs : List ℕ) × (j : F) × YieldsThen nat_range_steps s xs r u × FoldsTo (λ p x q. CalledAt g p x false q) f xs j × MatchOption r ⊤ (λ x. (h : F) × CalledAt g j x true h)
      → ((i : ℕ) (b : Bool) (q : F) → CalledAt g f i b q → (q ≡ f) × (b ≡ test i (get_or l i d))) → r ≡ found_below n (find_index test l)
  found-in_Range s u f r e ran said =
      is-found r
      (subst
      (λ (s : Range ℕ). MatchOption r ((k : ℕ) → s.start ≤ k → k < s.end → test k (get_or l k d) ≡ false)
      (λ i. (s.start ≤ i) × (i < s.end) × (test i (get_or l i d) ≡ true) × ((k : ℕ) → s.start ≤ k → k < i → test k (get_or l k d) ≡ false)))
      e
      (first_from_Range s u f r (λ i. test i (get_or l i d) ≡ true) (λ i. test i (get_or l i d) ≡ false) ran (λ i q called. sym (said i true q called).1)
      (λ i q called. let (same, b) = said i false q called in (same, sym b))))
