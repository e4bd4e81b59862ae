-- An outcome is a refusal, or the effect with every reason to refuse false. Assumes nothing.
use Prim.Native.Nat.{ℕ}
use native.Mathlib.Omega.{arith}
use mathlib.Core.Path.{◌≡◌, refl, ◌∙◌}
use mathlib.Core.Bool.{Bool, true, false}
use mathlib.Core.List.{List, [], ◌∷◌, ◌++◌, map}
use lib.Dec.{leb}
use borrow.Author.Tests.{leb-true}
use Rattle.records.specs.Status.{SUCCESSFUL}
use Rattle.std.specs.Prelude.{if◌then◌else◌}
use Rattle.ranks.specs.Lists.{all_true}
use Rattle.ranks.proofs.Lists.{holds, held}
use Rattle.specification.specs.Answer.{Outcome, Refusal, refuse, refuse_if_any, first_status}

-- no reason to refuse holds
abbrev pub None : List Refusal → Type 0
None [] = Unit {0}
None (r ∷ rs) = (r.holds ≡ false) × None rs

-- every status of the list is as `Q` says
abbrev pub Statuses : (ℕ → Type 0) → List Refusal → Type 0
Statuses Q [] = Unit {0}
Statuses Q (r ∷ rs) = Q r.status × Statuses Q rs

module _ {S : Type 0} (P : Outcome S → Type 0) (s : S) where
  -- with what is known of the statuses
  pub refused-with : {Q : ℕ → Type 0} (rs : List Refusal) (effect : Outcome S) → Statuses Q rs
      → ((n : ℕ) → Q n → P (refuse s n)) → (None rs → P effect) → P (refuse_if_any s rs effect)
  unfolding refuse_if_any
  refused-with [] effect q rf ef = ef tt
  refused-with (r ∷ rs) effect q rf ef = go r.holds refl (refused-with rs effect q.1 rf)
    where
      go : (b : Bool) → r.holds ≡ b → ((None rs → P effect) → P (refuse_if_any s rs effect)) → P (if b then refuse s r.status else refuse_if_any s rs effect)
      go true e ih = rf r.status q.0
      go false e ih = ih (λ h. ef (e, h))

  pub refused-or : (rs : List Refusal) (effect : Outcome S) → ((n : ℕ) → P (refuse s n)) → (None rs → P effect) → P (refuse_if_any s rs effect)
  refused-or rs effect rf ef = refused-with {Q = λ n. Unit {0}} rs effect (any rs) (λ n _. rf n) ef
    where
      any : (rs : List Refusal) → Statuses (λ n. Unit {0}) rs
      any [] = tt
      any (r ∷ rs) = (tt, any rs)

-- where no reason holds, it is the effect
pub refuses-none : {S : Type 0} (s : S) (rs : List Refusal) (effect : Outcome S) → None rs → refuse_if_any s rs effect ≡ effect
unfolding refuse_if_any
refuses-none s [] effect n = refl
refuses-none s (r ∷ rs) effect n = rw n.0 (refuses-none s rs effect n.1)

-- of two lists, one after the other
pub none_left : (rs rs' : List Refusal) → None (rs ++ rs') → None rs
none_left [] rs' n = tt
none_left (r ∷ rs) rs' n = (n.0, none_left rs rs' n.1)

-- ---- The first status

-- every reason has a status that is not 0
abbrev pub Numbered : List Refusal → Type 0
Numbered rs = all_true (map (λ r. leb 1 r.status) rs) ≡ true

-- where the first status is 0, no reason holds
pub none-holds : (rs : List Refusal) → Numbered rs → 0 ≡ first_status rs → None rs
unfolding first_status all_true
none-holds [] k e = tt
none-holds (r ∷ rs) k e = go r.holds refl (none-holds rs numbers.1)
  where
    numbers : (leb 1 r.status ≡ true) × Numbered rs
    numbers = let both = holds (leb 1 r.status ∷ map (λ x. leb 1 x.status) rs) k in (both.0, held (map (λ x. leb 1 x.status) rs) both.1)

    go : (b : Bool) → r.holds ≡ b → (0 ≡ first_status rs → None rs) → None (r ∷ rs)
    go true h later = let none : 0 ≡ r.status = e ∙ rw h refl in absurd (omega (arith, none, leb-true 1 r.status numbers.0))
    go false h later = (h, later (e ∙ rw h refl))

-- where it is not 0, the outcome is the refusal with it
pub refused-first : {S : Type 0} (s : S) (rs : List Refusal) (effect : Outcome S) (n : ℕ) → n ≡ first_status rs → (n ≡ SUCCESSFUL → ⊥) → refuse s n ≡ refuse_if_any s rs effect
unfolding first_status refuse_if_any
refused-first s [] effect n e ne = absurd (ne e)
refused-first s (r ∷ rs) effect n e ne = go r.holds refl (λ f. refused-first s rs effect n f ne)
  where
    go : (b : Bool) → r.holds ≡ b → (n ≡ first_status rs → refuse s n ≡ refuse_if_any s rs effect) → refuse s n ≡ refuse_if_any s (r ∷ rs) effect
    go true h later = let same : n ≡ r.status = e ∙ rw h refl in rw (h, same)
    go false h later = rw h (later (e ∙ rw h refl))
