-- The record that is found at a rank of a queue stands there, and where none is found at rank 0 the queue is empty. Assumes nothing.
use Prim.Native.Nat.{ℕ, zero, suc, ◌≤◌, ◌<◌}
use native.Mathlib.Omega.{arith}
use mathlib.Core.Path.{◌≡◌, refl, sym, ◌∙◌, subst}
use mathlib.Core.Bool.{Bool, false}
use mathlib.Core.List.{List}
use lib.ListN.{length, get_or}
use borrow.Author.Tests.{eqb-true, eq-eqb}
use Rattle.ranks.specs.Lists.{map_with_index}
use Rattle.ranks.specs.Position.{Position, stands_at}
use Rattle.ranks.specs.Steps.{record_at}
use Rattle.ranks.proofs.Lists.{at-mapped, length-mapped, first-true, first-least}
use Rattle.ranks.proofs.Tests.{both, and}
use Rattle.ranks.proofs.Ranks.{Ranked}

module _ {A : Type 0} (position : A → Position) (slot rank : ℕ) (xs : List A) (a : A) where
  abbrev test : ℕ → A → Bool
  test j x = stands_at slot rank (position x)

  abbrev found : ℕ
  found = record_at position slot rank xs

  pub found-stands : found < length xs → ((position (get_or xs found a)).queue ≡ suc slot) × ((position (get_or xs found a)).rank ≡ rank)
  found-stands lt =
      let p = first-true (map_with_index test xs) (subst (λ (n : ℕ). found < n) (sym (length-mapped test xs)) lt) in
      let (q, r) = both _ _ (sym (at-mapped test xs found a false lt) ∙ p) in
      (eqb-true _ _ q, eqb-true _ _ r)

  -- it is not behind a record that stands there
  pub found-least : (j : ℕ) → j < length xs → (position (get_or xs j a)).queue ≡ suc slot → (position (get_or xs j a)).rank ≡ rank → found ≤ j
  found-least j lt q r = first-least (map_with_index test xs) j (at-mapped test xs j a false lt ∙ and (eq-eqb _ _ q) (eq-eqb _ _ r))

pub none_first : {A : Type 0} (position : A → Position) (slot n : ℕ) (xs : List A) (a : A) (N : ℕ) → length xs ≡ N
    → Ranked N (λ j. position (get_or xs j a)) slot n → N ≤ record_at position slot 0 xs → n ≡ 0
none_first position slot zero xs a N len r h = refl
none_first position slot (suc n) xs a N len r h =
    let (j, lt, q, k) = r.some 0 (omega arith) in
    let le = found-least position slot 0 xs a j (omega arith) q k in
    absurd (omega arith)
