-- A loop that changes the records of a table one by one, in order. Assumes nothing.
use native.Mathlib.Omega.{arith}
use mathlib.Core.List.{List}
use Prim.Native.Nat.{ℕ, ◌+◌, ◌≤◌, ◌<◌}
use mathlib.Core.Path.{◌≡◌, refl, ap, ◌∙◌}
use lib.ListN.{length, get_or, set}
use Rattle.ranks.specs.Lists.{map_with_index}
use Rattle.ranks.proofs.Lists.{up_to, up_to-none, up_to-turn, up_to-all, at-up_to}

-- The k records of the table `t` are those of `t₀` with `f` done to each below `i`.
pub record ChangedUpTo {A : Type 0} (table : List ℕ → List A) (k : ℕ) (f : ℕ → A → A) (t₀ t : List ℕ) (i : ℕ) : Type 0 where
  pub bound : i ≤ k
  pub size : length t ≡ length t₀
  pub so_far : table t ≡ up_to f i (table t₀)

module _ {A : Type 0} {table : List ℕ → List A} {k : ℕ} {f : ℕ → A → A} {t₀ : List ℕ} (d : A) (long : length (table t₀) ≡ k) where
  pub none-changed : ChangedUpTo table k f t₀ t₀ 0
  none-changed = record { bound = omega arith; size = refl; so_far = up_to-none f (table t₀) d }

  module _ {t : List ℕ} {i : ℕ} (before : ChangedUpTo table k f t₀ t i) where
    -- record i is still as it was
    pub still : i < k → get_or (table t) i d ≡ get_or (table t₀) i d
    still h = ap (λ (l : List A). get_or l i d) before.so_far ∙ at-up_to f (table t₀) d i (omega arith)

    pub one-more-changed : {u : List ℕ} → i < k → length u ≡ length t → table u ≡ set (table t) i (f i (get_or (table t₀) i d)) → ChangedUpTo table k f t₀ u (i + 1)
    one-more-changed h e step =
        record {
          bound = omega arith;
          size = e ∙ before.size;
          so_far = step ∙ ap (λ (l : List A). set l i (f i (get_or (table t₀) i d))) before.so_far ∙ up_to-turn f (table t₀) d i (omega arith);
        }

    pub all_changed : k ≤ i → table t ≡ map_with_index f (table t₀)
    all_changed h = before.so_far ∙ up_to-all f (table t₀) d i (omega (arith, before.bound))
