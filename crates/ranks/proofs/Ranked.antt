-- The test `ranked` of `specs/Steps.antt` says what `Ranked` says. Assumes nothing.
use Prim.Native.Nat.{ℕ, zero, suc, ◌<◌}
use native.Mathlib.Nat.{zero-add}
use native.Mathlib.Omega.{arith}
use mathlib.Core.Path.{◌≡◌, refl, sym, ap, ◌∙◌, subst}
use mathlib.Core.Bool.{Bool, true, false, false≢true}
use mathlib.Core.List.{List, [], ◌∷◌}
use lib.Dec.{eqb, ltb}
use lib.ListN.{length, get_or}
use borrow.Author.Tests.{eqb-true, ltb-true, lt-ltb, eq-eqb}
use Rattle.ranks.specs.Lists.{map_with_index, all_true, count_true, numbers_from, ◌implies◌}
use Rattle.ranks.specs.Position.{Position, no_queue, in_queue, stands_at}
use Rattle.ranks.specs.Steps.{ranked}
use Rattle.ranks.proofs.Tests.{both, and}
use Rattle.ranks.proofs.Lists.{at-mapped, length-mapped, every-at, every-from, OnlyOne, count-one, one-count, length-range, at-range}
use Rattle.ranks.proofs.Ranks.{Ranked, frame}

pub implied : {a b : Bool} → (a implies b) ≡ true → a ≡ true → b ≡ true
unfolding ◌implies◌
implied {a = true} e p = e
implied {a = false} e p = absurd (false≢true p)

pub implying : (a b : Bool) → (a ≡ true → b ≡ true) → (a implies b) ≡ true
unfolding ◌implies◌
implying true b h = h refl
implying false b h = refl

true_below : (bs : List Bool) (i : ℕ) → get_or bs i false ≡ true → i < length bs
true_below [] i e = absurd (false≢true e)
true_below (b ∷ bs) zero e = omega arith
true_below (b ∷ bs) (suc i) e = let h : i < length bs = true_below bs i e in omega arith

module _ (slot n : ℕ) (ps : List Position) where
  abbrev tests : ℕ → List Bool
  tests r = map_with_index (λ j p. stands_at slot r p) ps

  -- a test that is passed, as a fact
  stands : (r j : ℕ) → get_or (tests r) j false ≡ true → (j < length ps) × ((get_or ps j no_queue).queue ≡ suc slot) × ((get_or ps j no_queue).rank ≡ r)
  stands r j e =
      let lt : j < length ps = subst (λ (k : ℕ). j < k) (length-mapped (λ j p. stands_at slot r p) ps) (true_below (tests r) j e) in
      let (a, b) = both _ _ (sym (at-mapped (λ j p. stands_at slot r p) ps j no_queue false lt) ∙ e) in
      (lt, eqb-true _ _ a, eqb-true _ _ b)

  passes : (r j : ℕ) → j < length ps → (get_or ps j no_queue).queue ≡ suc slot → (get_or ps j no_queue).rank ≡ r → get_or (tests r) j false ≡ true
  passes r j lt e f = at-mapped (λ j p. stands_at slot r p) ps j no_queue false lt ∙ and (eq-eqb _ _ e) (eq-eqb _ _ f)

  pub from-ranked : ranked slot n ps ≡ true → Ranked (length ps) (λ j. get_or ps j no_queue) slot n
  unfolding ranked
  from-ranked e = record { below = below; some = some; one = one }
    where
      h : (all_true (map_with_index (λ j p. in_queue slot p implies ltb p.rank n) ps) ≡ true)
          × (all_true (map_with_index (λ i r. eqb (count_true (tests r)) 1) (numbers_from 0 n)) ≡ true)
      h = both _ _ e

      below : (j : ℕ) → j < length ps → (get_or ps j no_queue).queue ≡ suc slot → (get_or ps j no_queue).rank < n
      below j lt q = ltb-true _ _ (implied (every-at _ ps no_queue h.0 j lt) (eq-eqb _ _ q))

      only : (r : ℕ) → r < n → OnlyOne (tests r)
      only r lt =
          count-one (tests r)
          (eqb-true _ _
          (subst (λ (k : ℕ). eqb (count_true (tests k)) 1 ≡ true) (at-range 0 n r 0 lt ∙ zero-add r)
          (every-at (λ i r. eqb (count_true (tests r)) 1) (numbers_from 0 n) 0 h.1 r (subst (λ (k : ℕ). r < k) (sym (length-range 0 n)) lt))))

      some : (r : ℕ) → r < n → (j : ℕ) × (j < length ps) × ((get_or ps j no_queue).queue ≡ suc slot) × ((get_or ps j no_queue).rank ≡ r)
      some r lt = let o = only r lt in let (a, b, c) = stands r o.index o.passes in (o.index, a, b, c)

      one : (j k : ℕ) → j < length ps → k < length ps → (get_or ps j no_queue).queue ≡ suc slot → (get_or ps k no_queue).queue ≡ suc slot
          → (get_or ps j no_queue).rank ≡ (get_or ps k no_queue).rank → j ≡ k
      one j k hj hk qj qk e =
          let o = only (get_or ps j no_queue).rank (below j hj qj) in
          o.only j (passes _ j hj qj refl) ∙ sym (o.only k (passes _ k hk qk (sym e)))

  pub to-ranked : Ranked (length ps) (λ j. get_or ps j no_queue) slot n → ranked slot n ps ≡ true
  unfolding ranked
  to-ranked r =
      and
      (every-from _ ps no_queue (λ j lt. implying _ _ (λ q. lt-ltb _ _ (r.below j lt (eqb-true _ _ q)))))
      (every-from (λ i k. eqb (count_true (tests k)) 1) (numbers_from 0 n) 0
      (λ i lt.
      let lt' : i < n = subst (λ (k : ℕ). i < k) (length-range 0 n) lt in
      subst (λ (k : ℕ). eqb (count_true (tests k)) 1 ≡ true) (sym (at-range 0 n i 0 lt' ∙ zero-add i)) (eq-eqb _ _ (once i lt'))))
    where
      once : (k : ℕ) → k < n → count_true (tests k) ≡ 1
      once k lt =
          let (j, hj, q, e) = r.some k lt in
          one-count (tests k) j (passes k j hj q e)
          (λ i p. let (hi, q', e') = stands k i p in r.one i j hi hj q' q (e' ∙ sym e))

-- the same of a table whose records have places
module _ {A : Type 0} (place : A → Position) (l : List A) (a : A) (slot n : ℕ) where
  abbrev positions_of : List Position
  positions_of = map_with_index (λ j x. place x) l

  pub from-positions : ranked slot n positions_of ≡ true → Ranked (length l) (λ j. place (get_or l j a)) slot n
  from-positions e =
      let r : Ranked (length l) (λ j. get_or positions_of j no_queue) slot n =
      subst (λ (k : ℕ). Ranked k (λ j. get_or positions_of j no_queue) slot n) (length-mapped (λ j x. place x) l) (from-ranked slot n positions_of e) in
      frame (length l) (λ j. get_or positions_of j no_queue) (λ j. place (get_or l j a)) slot n
      (λ j h q. sym (at-mapped (λ j x. place x) l j a no_queue h))
      (λ j h q. ap (λ (p : Position). p.queue) (at-mapped (λ j x. place x) l j a no_queue h) ∙ q) r

  pub to-positions : Ranked (length l) (λ j. place (get_or l j a)) slot n → ranked slot n positions_of ≡ true
  to-positions r =
      to-ranked slot n positions_of
      (subst (λ (k : ℕ). Ranked k (λ j. get_or positions_of j no_queue) slot n) (sym (length-mapped (λ j x. place x) l))
      (frame (length l) (λ j. place (get_or l j a)) (λ j. get_or positions_of j no_queue) slot n
      (λ j h q. at-mapped (λ j x. place x) l j a no_queue h)
      (λ j h q. sym (ap (λ (p : Position). p.queue) (at-mapped (λ j x. place x) l j a no_queue h)) ∙ q) r))
