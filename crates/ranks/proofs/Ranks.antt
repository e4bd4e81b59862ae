-- The rank facts, once for messages and waiters alike. Assumes nothing.
use Prim.Native.Nat.{ℕ, suc, ◌-◌, ◌≤◌, ◌<◌}
use native.Mathlib.Omega.{arith}
use mathlib.Core.Path.{◌≡◌, refl, sym, ap, ◌∙◌, subst}
use mathlib.Core.Bool.{Bool, true, false, cond, ◌&&◌}
use lib.Dec.{eqb, leb, ltb}
use borrow.Author.Tests.{eqb-true, eqb-false, leb-true, leb-false, ltb-true, ltb-false, eq-eqb, ne_eqb}
use Rattle.ranks.specs.Position.{Position, no_queue, position_at, in_queue}
use Rattle.ranks.specs.Steps.{inserted, taken_out}

-- Of N positions those in the queue of the slot have the ranks 0 to n-1, each exactly once.
pub record Ranked (N : ℕ) (P : ℕ → Position) (slot n : ℕ) : Type 0 where
  pub below : (j : ℕ) → j < N → (P j).queue ≡ suc slot → (P j).rank < n
  pub some : (r : ℕ) → r < n → (j : ℕ) × (j < N) × ((P j).queue ≡ suc slot) × ((P j).rank ≡ r)
  pub one : (j k : ℕ) → j < N → k < N → (P j).queue ≡ suc slot → (P k).queue ≡ suc slot → (P j).rank ≡ (P k).rank → j ≡ k

-- nobody is in the queue
pub nobody : (N : ℕ) (P : ℕ → Position) (slot : ℕ) → ((j : ℕ) → j < N → (P j).queue ≡ suc slot → ⊥) → Ranked N P slot 0
nobody N P slot gone =
    record {
      below = λ j h q. absurd (gone j h q);
      some = λ r h. absurd (omega arith);
      one = λ j k hj hk qj qk e. absurd (gone j hj qj);
    }

-- ---- What a step makes of one position

-- The position p of another record becomes p' when the one at the rank is taken out.
pub data Out (slot rank : ℕ) (p p' : Position) : Type 0 where
  ahead : p.queue ≡ suc slot → p.rank ≤ rank → p'.queue ≡ suc slot → p'.rank ≡ p.rank → Out slot rank p p'
  behind : p.queue ≡ suc slot → rank < p.rank → p'.queue ≡ suc slot → suc p'.rank ≡ p.rank → Out slot rank p p'
  elsewhere : (p.queue ≡ suc slot → ⊥) → p' ≡ p → Out slot rank p p'

pub out-itself : (t slot rank : ℕ) (p : Position) → taken_out t slot rank t p ≡ no_queue
unfolding taken_out
out-itself t slot rank p = rw (eq-eqb t t refl)

pub out : (t slot rank j : ℕ) (p : Position) → (j ≡ t → ⊥) → Out slot rank p (taken_out t slot rank j p)
unfolding taken_out
out t slot rank j p ne = go (in_queue slot p) (ltb rank p.rank) refl refl
  where
    go : (a b : Bool) → in_queue slot p ≡ a → ltb rank p.rank ≡ b → Out slot rank p (taken_out t slot rank j p)
    go true true e f = let h : rank < p.rank = ltb-true _ _ f in rw (taken_out, ne_eqb j t ne, e, f) (behind (eqb-true _ _ e) h refl (omega arith))
    go true false e f = rw (taken_out, ne_eqb j t ne, e, f) (ahead (eqb-true _ _ e) (ltb-false _ _ f) (eqb-true _ _ e) refl)
    go false b e f = rw (taken_out, ne_eqb j t ne, e) (elsewhere (eqb-false _ _ e) refl)

-- The position p of another record becomes p' when one is put in at the rank.
pub data In (slot rank : ℕ) (p p' : Position) : Type 0 where
  ahead : p.queue ≡ suc slot → p.rank < rank → p'.queue ≡ suc slot → p'.rank ≡ p.rank → In slot rank p p'
  behind : p.queue ≡ suc slot → rank ≤ p.rank → p'.queue ≡ suc slot → p'.rank ≡ suc p.rank → In slot rank p p'
  elsewhere : (p.queue ≡ suc slot → ⊥) → p' ≡ p → In slot rank p p'

pub in_itself : (t slot rank : ℕ) (p : Position) → inserted t slot rank t p ≡ position_at slot rank
unfolding inserted
in_itself t slot rank p = rw (eq-eqb t t refl)

pub into : (t slot rank j : ℕ) (p : Position) → (j ≡ t → ⊥) → In slot rank p (inserted t slot rank j p)
unfolding inserted
into t slot rank j p ne = rw (ne_eqb j t ne) (go (in_queue slot p) (leb rank p.rank) refl refl)
  where
    go : (a b : Bool) → in_queue slot p ≡ a → leb rank p.rank ≡ b
        → In slot rank p (cond (a && b) (position_at slot (suc p.rank)) p)
    go true true e f = In.behind (eqb-true _ _ e) (leb-true _ _ f) refl refl
    go true false e f = In.ahead (eqb-true _ _ e) (leb-false _ _ f) (eqb-true _ _ e) refl
    go false b e f = In.elsewhere (eqb-false _ _ e) refl

-- ---- Another queue's positions

-- a step on one queue leaves the ranks of another, if it moves no position into or out of that other
pub frame : (N : ℕ) (P P' : ℕ → Position) (slot n : ℕ)
    → ((j : ℕ) → j < N → (P j).queue ≡ suc slot → P' j ≡ P j)
    → ((j : ℕ) → j < N → (P' j).queue ≡ suc slot → (P j).queue ≡ suc slot)
    → Ranked N P slot n → Ranked N P' slot n
frame N P P' slot n stay back r =
    record {
      below = λ j h q. let b = back j h q in subst (λ (p : Position). p.rank < n) (sym (stay j h b)) (r.below j h b);
      some =
          λ k h.
          let (j, lt, q, e) = r.some k h in
          (j, lt, ap (λ (p : Position). p.queue) (stay j lt q) ∙ q, ap (λ (p : Position). p.rank) (stay j lt q) ∙ e);
      one =
          λ j k hj hk qj qk e.
          let bj = back j hj qj in
          let bk = back k hk qk in
          r.one j k hj hk bj bk (sym (ap (λ (p : Position). p.rank) (stay j hj bj)) ∙ e ∙ ap (λ (p : Position). p.rank) (stay k hk bk));
    }

-- ---- The ranks with one record and without it

-- the rank r of another where the one at the rank is out, and its rank r' where it is in
pub data Came (rank r r' : ℕ) : Type 0 where
  before : r < rank → r' ≡ r → Came rank r r'
  after : rank ≤ r → r' ≡ suc r → Came rank r r'

-- the order of two others is the same with it and without it
pub came-order : {rank a a' b b' : ℕ} → Came rank a a' → Came rank b b'
    → (a < b → a' < b') × (a' < b' → a < b) × (a ≡ b → a' ≡ b') × (a' ≡ b' → a ≡ b)
came-order (before h e) (before k f) = (λ q. omega arith, λ q. omega arith, λ q. omega arith, λ q. omega arith)
came-order (before h e) (after k f) = (λ q. omega arith, λ q. omega arith, λ q. omega arith, λ q. omega arith)
came-order (after h e) (before k f) = (λ q. omega arith, λ q. omega arith, λ q. omega arith, λ q. omega arith)
came-order (after h e) (after k f) = (λ q. omega arith, λ q. omega arith, λ q. omega arith, λ q. omega arith)

pub left-mono : {rank a a' b b' : ℕ} → Came rank a a' → Came rank b b' → a < b → a' < b'
left-mono c d = (came-order c d).0

pub came-mono : {rank a a' b b' : ℕ} → Came rank a a' → Came rank b b' → a' < b' → a < b
came-mono c d = (came-order c d).1

came-ne : {rank a a' : ℕ} → Came rank a a' → a' ≡ rank → ⊥
came-ne (before h e) q = omega arith
came-ne (after h e) q = omega arith

came-below : {rank a a' n : ℕ} → Came rank a a' → a < n → a' < suc n
came-below (before h e) l = omega arith
came-below (after h e) l = omega arith

left_below : {rank a a' n : ℕ} → Came rank a a' → a' < n → rank < n → a < n - 1
left_below (before h e) l k = omega arith
left_below (after h e) l k = omega arith

-- ---- Take out

-- Take record t, which stands in the queue, out of N positions.
module _ (N : ℕ) (P : ℕ → Position) (slot n t : ℕ) (here : t < N) (q : (P t).queue ≡ suc slot) (r : Ranked N P slot n) where
  taken : ℕ → Position
  taken j = taken_out t slot (P t).rank j (P j)

  -- one that is in the queue afterwards was there before, and is not t
  pub stayed : (j : ℕ) → j < N → (taken_out t slot (P t).rank j (P j)).queue ≡ suc slot
      → (j ≡ t → ⊥) × ((P j).queue ≡ suc slot) × Came (P t).rank (taken_out t slot (P t).rank j (P j)).rank (P j).rank
  stayed j h e = go (eqb j t) refl
    where
      T : Type 0
      T = (j ≡ t → ⊥) × ((P j).queue ≡ suc slot) × Came (P t).rank (taken_out t slot (P t).rank j (P j)).rank (P j).rank

      by : (j ≡ t → ⊥) → Out slot (P t).rank (P j) (taken_out t slot (P t).rank j (P j)) → T
      by ne (ahead a b c d) =
          let ne' : (P j).rank ≡ (P t).rank → ⊥ = λ z. ne (r.one j t h here a q z) in
          (ne, a, before (omega arith) (sym d))
      by ne (behind a b c d) = (ne, a, after (omega arith) (sym d))
      by ne (elsewhere a b) = absurd (a (sym (ap (λ (p : Position). p.queue) b) ∙ e))

      go : (b : Bool) → eqb j t ≡ b → T
      go true z =
          let eq : 0 ≡ suc slot =
          sym (ap (λ (p : Position). p.queue) (out-itself t slot (P t).rank (P j)))
          ∙ subst (λ (k : ℕ). (taken_out t slot (P t).rank k (P j)).queue ≡ suc slot) (eqb-true j t z) e in
          absurd (let z : 1 ≤ 0 = omega arith in omega arith)
      go false z = by (eqb-false j t z) (out t slot (P t).rank j (P j) (eqb-false j t z))

  -- one of the queue other than t stays in it
  pub stays : (j : ℕ) → j < N → (P j).queue ≡ suc slot → (j ≡ t → ⊥)
      → ((taken_out t slot (P t).rank j (P j)).queue ≡ suc slot) × Came (P t).rank (taken_out t slot (P t).rank j (P j)).rank (P j).rank
  stays j h e ne = by (out t slot (P t).rank j (P j) ne)
    where
      by : Out slot (P t).rank (P j) (taken_out t slot (P t).rank j (P j))
          → ((taken_out t slot (P t).rank j (P j)).queue ≡ suc slot) × Came (P t).rank (taken_out t slot (P t).rank j (P j)).rank (P j).rank
      by (ahead a b c d) =
          let ne' : (P j).rank ≡ (P t).rank → ⊥ = λ z. ne (r.one j t h here a q z) in
          (c, before (omega arith) (sym d))
      by (behind a b c d) = (c, after (omega arith) (sym d))
      by (elsewhere a b) = absurd (a e)

  pub take_out : Ranked N (λ j. taken_out t slot (P t).rank j (P j)) slot (n - 1)
  take_out =
      record {
        below = λ j h e. let (ne, a, l) = stayed j h e in left_below l (r.below j h a) (r.below t here q);
        some = λ k h. some k h (ltb k (P t).rank) refl;
        one =
            λ j k hj hk ej ek e.
            let (nj, aj, lj) = stayed j hj ej in
            let (nk, ak, lk) = stayed k hk ek in
            r.one j k hj hk aj ak ((came-order lj lk).2 e);
      }
    where
      T : ℕ → Type 0
      T k =
          (j : ℕ) × (j < N) × ((taken_out t slot (P t).rank j (P j)).queue ≡ suc slot) × ((taken_out t slot (P t).rank j (P j)).rank ≡ k)

      -- the one at rank m stays, and gets rank k
      at_index : (k m : ℕ) → (x : (j : ℕ) × (j < N) × ((P j).queue ≡ suc slot) × ((P j).rank ≡ m)) → (m ≡ (P t).rank → ⊥) → Came (P t).rank k m → T k
      at_index k m (j, lt, e, f) ne to =
          let (e', l) = stays j lt e (λ z. ne (sym f ∙ ap (λ (i : ℕ). (P i).rank) z)) in
          (j, lt, e', (came-order l to).3 f)

      some : (k : ℕ) → k < n - 1 → (b : Bool) → ltb k (P t).rank ≡ b → T k
      some k h true e =
          let lt : k < (P t).rank = ltb-true _ _ e in
          at_index k k (r.some k (omega arith)) (λ z. omega arith) (before lt refl)
      some k h false e =
          let le : (P t).rank ≤ k = ltb-false _ _ e in
          at_index k (suc k) (r.some (suc k) (omega arith)) (λ z. omega arith) (after le refl)

-- ---- Insert

-- Put record t, which stands in no queue, in at a rank of the queue.
module _ (N : ℕ) (P : ℕ → Position) (slot n t rank : ℕ) (here : t < N) (q : (P t).queue ≡ 0) (arguments_in_range : rank ≤ n) (r : Ranked N P slot n) where
  -- one of the queue afterwards is t or was there before
  pub was : (j : ℕ) → j < N → (inserted t slot rank j (P j)).queue ≡ suc slot → (j ≡ t → ⊥)
      → ((P j).queue ≡ suc slot) × Came rank (P j).rank (inserted t slot rank j (P j)).rank
  was j h e ne = by (into t slot rank j (P j) ne)
    where
      by : In slot rank (P j) (inserted t slot rank j (P j))
          → ((P j).queue ≡ suc slot) × Came rank (P j).rank (inserted t slot rank j (P j)).rank
      by (In.ahead a b c d) = (a, Came.before b d)
      by (In.behind a b c d) = (a, Came.after b d)
      by (In.elsewhere a b) = absurd (a (sym (ap (λ (p : Position). p.queue) b) ∙ e))

  -- one that was there is there
  pub is : (j : ℕ) → j < N → (P j).queue ≡ suc slot
      → ((inserted t slot rank j (P j)).queue ≡ suc slot) × Came rank (P j).rank (inserted t slot rank j (P j)).rank
  is j h e = by (into t slot rank j (P j) ne)
    where
      ne : j ≡ t → ⊥
      ne z = let e' : (P t).queue ≡ suc slot = subst (λ (i : ℕ). (P i).queue ≡ suc slot) z e in omega arith

      by : In slot rank (P j) (inserted t slot rank j (P j))
          → ((inserted t slot rank j (P j)).queue ≡ suc slot) × Came rank (P j).rank (inserted t slot rank j (P j)).rank
      by (In.ahead a b c d) = (c, Came.before b d)
      by (In.behind a b c d) = (c, Came.after b d)
      by (In.elsewhere a b) = absurd (a e)

  itself : (j : ℕ) → j ≡ t → (inserted t slot rank j (P j)).rank ≡ rank
  itself j z = subst (λ (k : ℕ). (inserted t slot rank k (P j)).rank ≡ rank) (sym z) (ap (λ (p : Position). p.rank) (in_itself t slot rank (P j)))

  pub insert : Ranked N (λ j. inserted t slot rank j (P j)) slot (suc n)
  insert = record { below = below; some = λ k h. some k h (eqb k rank) refl (ltb k rank) refl; one = one }
    where
      below : (j : ℕ) → j < N → (inserted t slot rank j (P j)).queue ≡ suc slot → (inserted t slot rank j (P j)).rank < suc n
      below j h e = go (eqb j t) refl
        where
          go : (b : Bool) → eqb j t ≡ b → (inserted t slot rank j (P j)).rank < suc n
          go true z = let w : (inserted t slot rank j (P j)).rank ≡ rank = itself j (eqb-true _ _ z) in omega arith
          go false z = let (a, c) = was j h e (eqb-false _ _ z) in came-below c (r.below j h a)

      T : ℕ → Type 0
      T k = (j : ℕ) × (j < N) × ((inserted t slot rank j (P j)).queue ≡ suc slot) × ((inserted t slot rank j (P j)).rank ≡ k)

      -- the one at rank m gets rank k
      at_index : (k m : ℕ) → (x : (j : ℕ) × (j < N) × ((P j).queue ≡ suc slot) × ((P j).rank ≡ m)) → Came rank m k → T k
      at_index k m (j, lt, e, f) to = let (e', c) = is j lt e in (j, lt, e', (came-order c to).2 f)

      some : (k : ℕ) → k < suc n → (b : Bool) → eqb k rank ≡ b → (c : Bool) → ltb k rank ≡ c → T k
      some k h true e c f =
          (t, here, ap (λ (p : Position). p.queue) (in_itself t slot rank (P t)), itself t refl ∙ sym (eqb-true k rank e))
      some k h false e true f =
          let lt : k < rank = ltb-true _ _ f in
          at_index k k (r.some k (omega arith)) (before lt refl)
      some k h false e false f =
          let le : rank ≤ k = ltb-false _ _ f in
          let ne : k ≡ rank → ⊥ = eqb-false _ _ e in
          at_index k (k - 1) (r.some (k - 1) (omega arith)) (after (omega arith) (omega arith))

      one : (j k : ℕ) → j < N → k < N → (inserted t slot rank j (P j)).queue ≡ suc slot → (inserted t slot rank k (P k)).queue ≡ suc slot
          → (inserted t slot rank j (P j)).rank ≡ (inserted t slot rank k (P k)).rank → j ≡ k
      one j k hj hk ej ek e = go (eqb j t) refl (eqb k t) refl
        where
          go : (b : Bool) → eqb j t ≡ b → (c : Bool) → eqb k t ≡ c → j ≡ k
          go true z true y = eqb-true _ _ z ∙ sym (eqb-true _ _ y)
          go true z false y = absurd (came-ne (was k hk ek (eqb-false _ _ y)).1 (sym e ∙ itself j (eqb-true _ _ z)))
          go false z true y = absurd (came-ne (was j hj ej (eqb-false _ _ z)).1 (e ∙ itself k (eqb-true _ _ y)))
          go false z false y =
              let (aj, cj) = was j hj ej (eqb-false _ _ z) in
              let (ak, ck) = was k hk ek (eqb-false _ _ y) in
              r.one j k hj hk aj ak ((came-order cj ck).3 e)

-- ---- Other queues

-- Two positions agree for the queue of slot i: one is in it exactly where the other is, and then they are the same.
abbrev pub Agree : ℕ → Position → Position → Type 0
Agree i p p' = (p.queue ≡ suc i → p' ≡ p) × (p'.queue ≡ suc i → p.queue ≡ suc i)

suc_inj : {a b : ℕ} → suc a ≡ suc b → a ≡ b
suc_inj e = omega arith

-- neither is in the queue of i
neither : (i : ℕ) (p p' : Position) → (p.queue ≡ suc i → ⊥) → (p'.queue ≡ suc i → ⊥) → Agree i p p'
neither i p p' h k = (λ e. absurd (h e), λ e. absurd (k e))

pub take-out-other : (t slot rank i j : ℕ) (p : Position) → (i ≡ slot → ⊥) → (j ≡ t → p.queue ≡ suc slot) → Agree i p (taken_out t slot rank j p)
take-out-other t slot rank i j p ne q = go (eqb j t) refl
  where
    no : {x : ℕ} → x ≡ suc slot → x ≡ suc i → ⊥
    no a b = ne (suc_inj (sym b ∙ a))

    by : Out slot rank p (taken_out t slot rank j p) → Agree i p (taken_out t slot rank j p)
    by (ahead a b c d) = neither i _ _ (no a) (no c)
    by (behind a b c d) = neither i _ _ (no a) (no c)
    by (elsewhere a b) = (λ x. b, λ x. sym (ap (λ (p : Position). p.queue) b) ∙ x)

    go : (b : Bool) → eqb j t ≡ b → Agree i p (taken_out t slot rank j p)
    go true z =
        let e = eqb-true j t z in
        let o : (taken_out t slot rank j p).queue ≡ 0 =
        subst (λ (k : ℕ). (taken_out t slot rank k p).queue ≡ 0) (sym e) (ap (λ (p : Position). p.queue) (out-itself t slot rank p)) in
        neither i _ _ (no (q e)) (λ x. let y : 0 ≡ suc i = sym o ∙ x in omega arith)
    go false z = by (out t slot rank j p (eqb-false j t z))

pub insert-other : (t slot rank i j : ℕ) (p : Position) → (i ≡ slot → ⊥) → (j ≡ t → p.queue ≡ 0) → Agree i p (inserted t slot rank j p)
insert-other t slot rank i j p ne q = go (eqb j t) refl
  where
    no : {x : ℕ} → x ≡ suc slot → x ≡ suc i → ⊥
    no a b = ne (suc_inj (sym b ∙ a))

    by : In slot rank p (inserted t slot rank j p) → Agree i p (inserted t slot rank j p)
    by (In.ahead a b c d) = neither i _ _ (no a) (no c)
    by (In.behind a b c d) = neither i _ _ (no a) (no c)
    by (In.elsewhere a b) = (λ x. b, λ x. sym (ap (λ (p : Position). p.queue) b) ∙ x)

    go : (b : Bool) → eqb j t ≡ b → Agree i p (inserted t slot rank j p)
    go true z =
        let e = eqb-true j t z in
        let o : (inserted t slot rank j p).queue ≡ suc slot =
        subst (λ (k : ℕ). (inserted t slot rank k p).queue ≡ suc slot) (sym e) (ap (λ (p : Position). p.queue) (in_itself t slot rank p)) in
        let z = q e in
        neither i _ _ (λ x. let y : 0 ≡ suc i = sym (q e) ∙ x in omega arith) (no o)
    go false z = by (into t slot rank j p (eqb-false j t z))

-- ---- The ranks of each of K queues after a step on one

module _ (N K : ℕ) (P P' : ℕ → Position) (n n' : ℕ → ℕ) (slot : ℕ) (all : (i : ℕ) → i < K → Ranked N P i (n i))
    (else : (i : ℕ) → i < K → (i ≡ slot → ⊥) → n' i ≡ n i) where
  rest : (i : ℕ) → i < K → (i ≡ slot → ⊥) → ((j : ℕ) → j < N → Agree i (P j) (P' j)) → Ranked N P' i (n' i)
  rest i h ne ag =
      subst (λ (k : ℕ). Ranked N P' i k) (sym (else i h ne)) (frame N P P' i (n i) (λ j hj. (ag j hj).0) (λ j hj. (ag j hj).1) (all i h))

  -- record t of the queue is taken out
  pub take-out-all : (t : ℕ) → t < N → slot < K → (P t).queue ≡ suc slot → n' slot ≡ n slot - 1
      → ((j : ℕ) → j < N → P' j ≡ taken_out t slot (P t).rank j (P j)) → (i : ℕ) → i < K → Ranked N P' i (n' i)
  take-out-all t here slot< q c e i h = go (eqb i slot) refl
    where
      go : (b : Bool) → eqb i slot ≡ b → Ranked N P' i (n' i)
      go true z =
          subst (λ (k : ℕ). Ranked N P' k (n' k)) (sym (eqb-true _ _ z))
          (subst (λ (k : ℕ). Ranked N P' slot k) (sym c)
          (frame N (λ j. taken_out t slot (P t).rank j (P j)) P' slot (n slot - 1) (λ j hj _. e j hj)
          (λ j hj x. sym (ap (λ (p : Position). p.queue) (e j hj)) ∙ x) (take_out N P slot (n slot) t here q (all slot slot<))))
      go false z =
          let ne = eqb-false _ _ z in
          rest i h ne
          (λ j hj. subst (λ (p : Position). Agree i (P j) p) (sym (e j hj))
          (take-out-other t slot (P t).rank i j (P j) ne (λ x. ap (λ (k : ℕ). (P k).queue) x ∙ q)))

  -- record t, in no queue, is put in at a rank
  pub insert_all : (t rank : ℕ) → t < N → slot < K → (P t).queue ≡ 0 → rank ≤ n slot → n' slot ≡ suc (n slot)
      → ((j : ℕ) → j < N → P' j ≡ inserted t slot rank j (P j)) → (i : ℕ) → i < K → Ranked N P' i (n' i)
  insert_all t rank here slot< q le c e i h = go (eqb i slot) refl
    where
      go : (b : Bool) → eqb i slot ≡ b → Ranked N P' i (n' i)
      go true z =
          subst (λ (k : ℕ). Ranked N P' k (n' k)) (sym (eqb-true _ _ z))
          (subst (λ (k : ℕ). Ranked N P' slot k) (sym c)
          (frame N (λ j. inserted t slot rank j (P j)) P' slot (suc (n slot)) (λ j hj _. e j hj)
          (λ j hj x. sym (ap (λ (p : Position). p.queue) (e j hj)) ∙ x) (insert N P slot (n slot) t rank here q le (all slot slot<))))
      go false z =
          let ne = eqb-false _ _ z in
          rest i h ne
          (λ j hj. subst (λ (p : Position). Agree i (P j) p) (sym (e j hj))
          (insert-other t slot rank i j (P j) ne (λ x. ap (λ (k : ℕ). (P k).queue) x ∙ q)))

  -- every record of the queue leaves it
  pub clear-all : n' slot ≡ 0 → ((j : ℕ) → j < N → (P' j).queue ≡ suc slot → ⊥) → ((i j : ℕ) → (i ≡ slot → ⊥) → j < N → Agree i (P j) (P' j))
      → (i : ℕ) → i < K → Ranked N P' i (n' i)
  clear-all c gone ag i h = go (eqb i slot) refl
    where
      none : Ranked N P' slot 0
      none = nobody N P' slot gone

      go : (b : Bool) → eqb i slot ≡ b → Ranked N P' i (n' i)
      go true z =
          subst (λ (k : ℕ). Ranked N P' k (n' k)) (sym (eqb-true _ _ z)) (subst (λ (k : ℕ). Ranked N P' slot k) (sym c) none)
      go false z = let ne = eqb-false _ _ z in rest i h ne (λ j hj. ag i j ne hj)

-- ---- Which queue a position is in

pub out-queue : (t slot rank j : ℕ) (p : Position) (k : ℕ) → (taken_out t slot rank j p).queue ≡ suc k → p.queue ≡ suc k
out-queue t slot rank j p k e = go (eqb j t) refl
  where
    by : Out slot rank p (taken_out t slot rank j p) → p.queue ≡ suc k
    by (ahead a b c d) = a ∙ sym c ∙ e
    by (behind a b c d) = a ∙ sym c ∙ e
    by (elsewhere a b) = sym (ap (λ (x : Position). x.queue) b) ∙ e

    go : (b : Bool) → eqb j t ≡ b → p.queue ≡ suc k
    go true z =
        let o : (taken_out t slot rank j p).queue ≡ 0 =
        subst (λ (i : ℕ). (taken_out t slot rank i p).queue ≡ 0) (sym (eqb-true j t z)) (ap (λ (x : Position). x.queue) (out-itself t slot rank p)) in
        absurd (let y : 0 ≡ suc k = sym o ∙ e in omega arith)
    go false z = by (out t slot rank j p (eqb-false j t z))

pub in-queue : (t slot rank j : ℕ) (p : Position) (k : ℕ) → (j ≡ t → ⊥) → (inserted t slot rank j p).queue ≡ suc k → p.queue ≡ suc k
in-queue t slot rank j p k ne e = by (into t slot rank j p ne)
  where
    by : In slot rank p (inserted t slot rank j p) → p.queue ≡ suc k
    by (In.ahead a b c d) = a ∙ sym c ∙ e
    by (In.behind a b c d) = a ∙ sym c ∙ e
    by (In.elsewhere a b) = sym (ap (λ (x : Position). x.queue) b) ∙ e

-- ---- What a step leaves of another record's position

-- the queue stays, and a position in no queue stays as it is
abbrev pub Moved : Position → Position → Type 0
Moved p p' = (p'.queue ≡ p.queue) × (p.queue ≡ 0 → p' ≡ p)

pub out-moved : (t slot rank j : ℕ) (p : Position) → (j ≡ t → ⊥) → Moved p (taken_out t slot rank j p)
out-moved t slot rank j p ne = by (out t slot rank j p ne)
  where
    by : {p' : Position} → Out slot rank p p' → Moved p p'
    by (ahead a b c d) = (c ∙ sym a, λ z. absurd (omega arith))
    by (behind a b c d) = (c ∙ sym a, λ z. absurd (omega arith))
    by (elsewhere a b) = (ap (λ (x : Position). x.queue) b, λ z. b)

pub in_moved : (t slot rank j : ℕ) (p : Position) → (j ≡ t → ⊥) → Moved p (inserted t slot rank j p)
in_moved t slot rank j p ne = by (into t slot rank j p ne)
  where
    by : {p' : Position} → In slot rank p p' → Moved p p'
    by (In.ahead a b c d) = (c ∙ sym a, λ z. absurd (omega arith))
    by (In.behind a b c d) = (c ∙ sym a, λ z. absurd (omega arith))
    by (In.elsewhere a b) = (ap (λ (x : Position). x.queue) b, λ z. b)

-- a position that is not in the queue stays
pub out_stays : (t slot rank j : ℕ) (p : Position) → (j ≡ t → ⊥) → (p.queue ≡ suc slot → ⊥) → taken_out t slot rank j p ≡ p
out_stays t slot rank j p ne n = by (out t slot rank j p ne)
  where
    by : {p' : Position} → Out slot rank p p' → p' ≡ p
    by (ahead a b c d) = absurd (n a)
    by (behind a b c d) = absurd (n a)
    by (elsewhere a b) = b

pub in-stays : (t slot rank j : ℕ) (p : Position) → (j ≡ t → ⊥) → (p.queue ≡ suc slot → ⊥) → inserted t slot rank j p ≡ p
in-stays t slot rank j p ne n = by (into t slot rank j p ne)
  where
    by : {p' : Position} → In slot rank p p' → p' ≡ p
    by (In.ahead a b c d) = absurd (n a)
    by (In.behind a b c d) = absurd (n a)
    by (In.elsewhere a b) = b
