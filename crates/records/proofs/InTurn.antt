-- A loop that changes the records of a table one by one, in order, said of what is read from them. Assumes nothing.
use Prim.Native.Nat.{ℕ, ◌+◌, ◌≤◌, ◌<◌}
use native.Mathlib.Omega.{arith}
use mathlib.Core.Path.{◌≡◌, sym, ap, ◌∙◌}
use mathlib.Core.List.{List, map}
use lib.ListN.{length, set}
use Rattle.ranks.specs.Lists.{map_with_index}
use Rattle.ranks.specs.Table.{records}
use Rattle.ranks.proofs.InTurn as each
use Rattle.records.specs.Changes.{at_index}
use Rattle.records.proofs.Writing.{set-each, length-decoded}

-- The table `t` is `t₀` with `f` done to each of the records below `i`.
abbrev pub ChangedUpTo : {A : Type 0} (read : List ℕ → A) (k n : ℕ) (f : ℕ → A → A) (t₀ t : List ℕ) (i : ℕ) → Type 0
ChangedUpTo read k n f = each.ChangedUpTo (λ t. map read (records k n t)) k f

module _ {A : Type 0} (read : List ℕ → A) (k n : ℕ) (f : ℕ → A → A) (d : A) (t₀ : List ℕ) where
  pub none-changed : ChangedUpTo read k n f t₀ t₀ 0
  none-changed = each.none-changed d (length-decoded read k n t₀)

  module _ (t : List ℕ) (i : ℕ) (before : ChangedUpTo read k n f t₀ t i) where
    pub one-more-changed : (u : List ℕ) → i < k → length u ≡ length t → map read (records k n u) ≡ map_with_index (at_index i (f i)) (map read (records k n t))
        → ChangedUpTo read k n f t₀ u (i + 1)
    one-more-changed u h e step =
        each.one-more-changed d (length-decoded read k n t₀) before h e
        (step ∙ sym (set-each (map read (records k n t)) i (f i) d (omega (arith, length-decoded read k n t)))
        ∙ ap (λ (a : A). set (map read (records k n t)) i (f i a)) (each.still d (length-decoded read k n t₀) before h))

    pub all_changed : k ≤ i → map read (records k n t) ≡ map_with_index f (map read (records k n t₀))
    all_changed = each.all_changed d (length-decoded read k n t₀) before
