-- The list of a queue in a table after a rank step, for messages and waiters alike. Assumes nothing.
use Prim.Native.Nat.{ℕ, zero, suc, ◌<◌}
use native.Mathlib.Nat.{zero-add}
use native.Mathlib.Omega.{arith}
use mathlib.Core.Path.{◌≡◌, refl, sym, ap, ◌∙◌, subst}
use mathlib.Core.Bool.{Bool, true, false}
use mathlib.Core.List.{List, [], ◌∷◌, ◌++◌, map}
use lib.Dec.{eqb}
use lib.ListN.{length, get_or, take, drop, length-map}
use borrow.Author.Tests.{eq-eqb, ne_eqb}
use Rattle.std.specs.Prelude.{if◌then◌else◌}
use Rattle.ranks.specs.Lists.{map_with_index, numbers_from}
use Rattle.ranks.specs.Position.{Position, no_queue, in_queue}
use Rattle.ranks.specs.Steps.{inserted, taken_out, by_rank}
use Rattle.ranks.proofs.Lists.{at-mapped, is_mapped, length-range, at-range}
use Rattle.ranks.proofs.Ranks.{Agree, take-out-other, insert-other}
use Rattle.ranks.proofs.ByRank.{at_map, RankedTable, Changed, by-rank-listed, length-by-rank}
use Rattle.theorems.proofs.KeptQueues.{if-at}

-- ---- Lists

module _ {A B : Type 0} where
  -- two functions that agree on every entry
  map-cong : (f g : A → B) (l : List A) (d : A) → ((k : ℕ) → k < length l → f (get_or l k d) ≡ g (get_or l k d)) → map f l ≡ map g l
  map-cong f g [] d h = refl
  map-cong f g (x ∷ l) d h =
      let rest : map f l ≡ map g l = map-cong f g l d (λ k lt. h (suc k) (omega arith)) in
      λ i. h 0 (omega arith) i ∷ rest i

  -- of a list into which t is put at place k
  pub map-put : (f : A → B) (l : List A) (k : ℕ) (t : A) → map f (take k l ++ t ∷ drop k l) ≡ take k (map f l) ++ f t ∷ drop k (map f l)
  map-put f l zero t = refl
  map-put f [] (suc k) t = refl
  map-put f (x ∷ l) (suc k) t = ap (λ (r : List B). f x ∷ r) (map-put f l k t)

-- a table's records by their numbers
pub by_number : {A B : Type 0} (f : ℕ → A → B) (h : ℕ → B) (xs : List A) (a : A) (b : B) (n : ℕ) → length xs ≡ n
    → ((k : ℕ) → k < n → f k (get_or xs k a) ≡ h k) → map_with_index f xs ≡ map h (numbers_from 0 n)
by_number f h xs a b n long same =
    sym
    (is_mapped f xs (map h (numbers_from 0 n)) a b (length-map (numbers_from 0 n) h ∙ length-range 0 n ∙ sym long)
    (λ k lt.
    let lt' : k < n = omega arith in
    at_map h (numbers_from 0 n) k 0 b (omega (arith, length-range 0 n)) ∙ ap h (at-range 0 n k 0 lt' ∙ zero-add k) ∙ sym (same k lt')))

-- what is said of the records in the queue is said of the entries of its list
pub map-by-rank : {A B : Type 0} {position : A → Position} {a : A} {N slot n : ℕ} {xs : List A} → RankedTable position a N slot n xs → (f g : ℕ → B)
    → ((j : ℕ) → j < N → (position (get_or xs j a)).queue ≡ suc slot → f j ≡ g j)
    → map f (by_rank position slot n xs) ≡ map g (by_rank position slot n xs)
map-by-rank {position = position} {slot = slot} {n = n} {xs = xs} table f g same =
    map-cong f g (by_rank position slot n xs) 0
    (λ k h. let (j, q, r) = (by-rank-listed table).entry k 0 (omega (arith, length-by-rank table)) in same _ j q)

-- ---- A step on a table

-- f is done to record t, and the position of every other record is changed by the step
abbrev pub stepped : {A : Type 0} → (A → Position) → (Position → A → A) → (t : ℕ) → (A → A) → (ℕ → Position → Position) → List A → List A
stepped position move t f step xs = map_with_index (λ j x. if eqb j t then f x else move (step j (position x)) x) xs

module _ {A : Type 0} {position : A → Position} {a : A} {N i n : ℕ} {xs : List A} (table : RankedTable position a N i n xs)
    (move : Position → A → A) (t : ℕ) (f : A → A) (step : ℕ → Position → Position) where
  pub stepped-at : (j : ℕ) → j < N
      → get_or (stepped position move t f step xs) j a ≡ (if eqb j t then f (get_or xs j a) else move (step j (position (get_or xs j a))) (get_or xs j a))
  stepped-at j h = at-mapped (λ j x. if eqb j t then f x else move (step j (position x)) x) xs j a a (omega (arith, table.long))

  pub stepped-here : t < N → get_or (stepped position move t f step xs) t a ≡ f (get_or xs t a)
  stepped-here h = stepped-at t h ∙ rw (eq-eqb t t refl)

  pub stepped-other : (j : ℕ) → j < N → (j ≡ t → ⊥)
      → get_or (stepped position move t f step xs) j a ≡ move (step j (position (get_or xs j a))) (get_or xs j a)
  stepped-other j h ne = stepped-at j h ∙ rw (ne_eqb j t ne)

  pub stepped-changed : ((p : Position) (x : A) → position (move p x) ≡ p) → ((x : A) → position (f x) ≡ step t (position x))
      → Changed position a N xs (stepped position move t f step xs) step
  stepped-changed moved self j h =
      ap position (stepped-at j h)
      ∙ if-at (λ x. position x ≡ step j (position (get_or xs j a))) j t (f (get_or xs j a)) _
      (λ e. subst (λ (k : ℕ). position (f (get_or xs j a)) ≡ step k (position (get_or xs j a))) (sym e) (self (get_or xs j a)))
      (λ _. moved _ _)

-- the records of another queue stay where they are
module _ {A : Type 0} {position : A → Position} {a : A} {N i n : ℕ} {xs : List A} (table : RankedTable position a N i n xs) (xs' : List A)
    (t slot rank : ℕ) (ne : i ≡ slot → ⊥) where
  pub taken-agree : (position (get_or xs t a)).queue ≡ suc slot → Changed position a N xs xs' (taken_out t slot rank)
      → (j : ℕ) → j < N → Agree i (position (get_or xs j a)) (position (get_or xs' j a))
  taken-agree q to j h =
      subst (λ (p : Position). Agree i (position (get_or xs j a)) p) (sym (to j h))
      (take-out-other t slot rank i j _ ne (λ e. ap (λ (k : ℕ). (position (get_or xs k a)).queue) e ∙ q))

  pub inserted-agree : (position (get_or xs t a)).queue ≡ 0 → Changed position a N xs xs' (inserted t slot rank)
      → (j : ℕ) → j < N → Agree i (position (get_or xs j a)) (position (get_or xs' j a))
  inserted-agree q to j h =
      subst (λ (p : Position). Agree i (position (get_or xs j a)) p) (sym (to j h))
      (insert-other t slot rank i j _ ne (λ e. ap (λ (k : ℕ). (position (get_or xs k a)).queue) e ∙ q))

-- ---- A queue that is cleared

-- f is done to every record in the queue of the slot
abbrev pub cleared : {A : Type 0} → (A → Position) → (slot : ℕ) → (A → A) → List A → List A
cleared position slot f xs = map_with_index (λ j x. if in_queue slot (position x) then f x else x) xs

module _ {A : Type 0} {position : A → Position} {a : A} {N i n : ℕ} {xs : List A} (table : RankedTable position a N i n xs) (slot : ℕ) (f : A → A) where
  pub cleared_at : (j : ℕ) → j < N → (b : Bool) → in_queue slot (position (get_or xs j a)) ≡ b
      → get_or (cleared position slot f xs) j a ≡ (if b then f (get_or xs j a) else get_or xs j a)
  cleared_at j h b e =
      at-mapped (λ j x. if in_queue slot (position x) then f x else x) xs j a a (omega (arith, table.long))
      ∙ ap (λ (c : Bool). if c then f (get_or xs j a) else get_or xs j a) e

  -- the records in another queue are as they were
  pub cleared-other : (i ≡ slot → ⊥) → (j : ℕ) → j < N → (position (get_or xs j a)).queue ≡ suc i → get_or (cleared position slot f xs) j a ≡ get_or xs j a
  cleared-other ne j h q = cleared_at j h false (ne_eqb _ _ (λ z. ne (let y : suc i ≡ suc slot = sym q ∙ z in omega arith)))

  pub cleared-agree : ((x : A) → position (f x) ≡ no_queue) → (i ≡ slot → ⊥) → (j : ℕ) → j < N
      → Agree i (position (get_or xs j a)) (position (get_or (cleared position slot f xs) j a))
  cleared-agree gone ne j h = ((λ q. ap position (cleared-other ne j h q)), (λ q. go (in_queue slot (position (get_or xs j a))) refl q))
    where
      go : (b : Bool) → in_queue slot (position (get_or xs j a)) ≡ b → (position (get_or (cleared position slot f xs) j a)).queue ≡ suc i
          → (position (get_or xs j a)).queue ≡ suc i
      go true e q =
          absurd (let z : 0 ≡ suc i = sym (ap (λ (p : Position). p.queue) (ap position (cleared_at j h true e) ∙ gone (get_or xs j a))) ∙ q in omega arith)
      go false e q = sym (ap (λ (x : A). (position x).queue) (cleared_at j h false e)) ∙ q
