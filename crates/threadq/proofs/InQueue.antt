-- The records of a queue changed one by one, in a loop over their table. Assumes nothing.
use Prim.Native.Nat.{ℕ, ◌+◌, ◌*◌, ◌≤◌, ◌<◌}
use mathlib.Core.Path.{◌≡◌, refl, sym, subst, ◌∙◌}
use mathlib.Core.Bool.{Bool, true, false}
use mathlib.Core.List.{List, map}
use lib.ListN.{length}
use Rattle.std.specs.Prelude.{if◌then◌else◌}
use Rattle.ranks.specs.Lists.{map_with_index}
use Rattle.ranks.specs.Position.{Position, in_queue}
use Rattle.ranks.specs.Table.{slice, records}
use Rattle.records.specs.Changes.{at_index}
use Rattle.records.proofs.InTurn as turns
use Rattle.records.proofs.Writing.{changed-if-passes, unchanged-if-fails}

-- a record that stands in the queue of the slot is changed by `f`
abbrev pub change_in : {A : Type 0} → (A → Position) → (slot : ℕ) → (A → A) → A → A
change_in position slot f x = if in_queue slot (position x) then f x else x

-- those below record `i` are changed
pub record ChangedIn {A : Type 0} (read : List ℕ → A) (position : A → Position) (k n slot : ℕ) (f : A → A) (t₀ t : List ℕ) (i : ℕ) : Type 0 where
  pub turned : turns.ChangedUpTo read k n (λ j x. change_in position slot f x) t₀ t i

module _ {A : Type 0} {read : List ℕ → A} {position : A → Position} {k n slot : ℕ} {f : A → A} {t₀ : List ℕ} (d : A) where
  pub none_in : ChangedIn read position k n slot f t₀ t₀ 0
  none_in = record { turned = turns.none-changed read k n (λ j x. change_in position slot f x) d t₀ }

  module _ {t : List ℕ} {i : ℕ} (before : ChangedIn read position k n slot f t₀ t i) where
    one-more-in : {u : List ℕ} → i < k → length u ≡ length t → map read (records k n u) ≡ map_with_index (at_index i (change_in position slot f)) (map read (records k n t))
        → ChangedIn read position k n slot f t₀ u (i + 1)
    one-more-in {u = u} h e step = record { turned = turns.one-more-changed read k n (λ j x. change_in position slot f x) d t₀ t i before.turned u h e step }

    module _ (h : i < k) {inside : Bool} (tested : inside ≡ in_queue slot (position (read (slice (i * n) n t)))) where
      -- record i stands in the queue, and was changed
      pub changed-here : inside ≡ true → {u : List ℕ} → length u ≡ length t → map read (records k n u) ≡ map_with_index (at_index i f) (map read (records k n t))
          → ChangedIn read position k n slot f t₀ u (i + 1)
      changed-here e l changed =
          one-more-in h l (changed ∙ changed-if-passes read k n t i h d (λ x. in_queue slot (position x)) f (sym tested ∙ e))

      -- it stands elsewhere, and is as it was
      pub stays_here : inside ≡ false → {u : List ℕ} → u ≡ t → ChangedIn read position k n slot f t₀ u (i + 1)
      stays_here e same =
          subst (λ (v : List ℕ). ChangedIn read position k n slot f t₀ v (i + 1)) (sym same)
          (one-more-in h refl (unchanged-if-fails read k n t i h d (λ x. in_queue slot (position x)) f (sym tested ∙ e)))

    pub all_in : k ≤ i → map read (records k n t) ≡ map_with_index (λ j x. change_in position slot f x) (map read (records k n t₀))
    all_in h = turns.all_changed read k n (λ j x. change_in position slot f x) d t₀ t i before.turned h
