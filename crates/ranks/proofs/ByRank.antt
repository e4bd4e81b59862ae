-- The queue as a list of record numbers in the order of their ranks, and what the rank steps make of that list. Assumes nothing.
use Prim.Native.Nat.{ℕ, zero, suc, ◌-◌, ◌≤◌, ◌<◌}
use native.Mathlib.Nat.{zero-add, le_of_suc-le-suc, not-suc-le-zero}
use native.Mathlib.Omega.{arith}
use mathlib.Core.Path.{◌≡◌, refl, sym, ap, ◌∙◌, subst}
use mathlib.Core.Bool.{Bool, true, false, ◌&&◌, not, true≢false}
use mathlib.Core.Logic.{◌⊎◌, inl, inr}
use mathlib.Core.List.{List, [], ◌∷◌, ◌++◌, map}
use lib.Dec.{eqb}
use lib.ListN.{length, get_or, set, take, drop, length-map, length-set, get_or-eq_default}
use lib.Seq.{ext_get_or, get_or_at, get_or-set_same, get_or-set_other, length-take-le}
use borrow.Author.Tests.{eqb-true, eq-eqb, ne_eqb}
use Rattle.ranks.specs.Lists.{map_with_index, count_true, first_true, numbers_from, keep_if}
use Rattle.ranks.specs.Position.{Position, in_queue, stands_at}
use Rattle.ranks.specs.Steps.{inserted, taken_out, record_at, by_rank}
use Rattle.ranks.proofs.Tests.{both, and, same?, lt-or-ge}
use Rattle.ranks.proofs.Lists.{at-mapped, length-mapped, first-true, first-least, count_none, count-bound, length-range, at-range, mapped-cong, is_mapped}
use Rattle.ranks.proofs.Ranks.{Ranked, Agree, Came, came-order, frame, take_out, stayed, insert, is, in_itself, out-itself, out-moved}

-- ---- Lists

module _ {A : Type 0} where
  pub at_map : {B : Type 0} (f : A → B) (l : List A) (k : ℕ) (a : A) (b : B) → k < length l → get_or (map f l) k b ≡ f (get_or l k a)
  at_map f [] k a b h = absurd (not-suc-le-zero h)
  at_map f (x ∷ l) zero a b h = refl
  at_map f (x ∷ l) (suc k) a b h = at_map f l k a b (le_of_suc-le-suc h)

  -- the entries of a list into which t is put at place k
  put-before : (l : List A) (k : ℕ) (t : A) (i : ℕ) (d : A) → i < k → k ≤ length l → get_or (take k l ++ t ∷ drop k l) i d ≡ get_or l i d
  put-before l zero t i d h le = absurd (not-suc-le-zero h)
  put-before [] (suc k) t i d h le = absurd (not-suc-le-zero le)
  put-before (x ∷ l) (suc k) t zero d h le = refl
  put-before (x ∷ l) (suc k) t (suc i) d h le = put-before l k t i d (le_of_suc-le-suc h) (le_of_suc-le-suc le)

  put-behind : (l : List A) (k : ℕ) (t : A) (i : ℕ) (d : A) → k ≤ i → get_or (take k l ++ t ∷ drop k l) (suc i) d ≡ get_or l i d
  put-behind l zero t i d h = refl
  put-behind [] (suc k) t i d h = refl
  put-behind (x ∷ l) (suc k) t zero d h = absurd (not-suc-le-zero h)
  put-behind (x ∷ l) (suc k) t (suc i) d h = put-behind l k t i d (le_of_suc-le-suc h)

  length-put : (l : List A) (k : ℕ) (t : A) → length (take k l ++ t ∷ drop k l) ≡ suc (length l)
  length-put l zero t = refl
  length-put [] (suc k) t = refl
  length-put (x ∷ l) (suc k) t = ap suc (length-put l k t)

  -- ---- filter

  -- an entry that fails is not kept, wherever it stands
  filter-put : (f : A → Bool) (l : List A) (k : ℕ) (t : A) → f t ≡ false → keep_if f (take k l ++ t ∷ drop k l) ≡ keep_if f l
  unfolding keep_if
  filter-put f l zero t e = rw (e, keep_if)
  filter-put f [] (suc k) t e = rw (e, keep_if)
  filter-put f (x ∷ l) (suc k) t e = ap (λ (r : List A). elim (f x) [ true ↦ x ∷ r | false ↦ r ]) (filter-put f l k t e)

  -- two tests that say the same of every entry keep the same
  pub filter-cong : (f g : A → Bool) (l : List A) (d : A) → ((k : ℕ) → k < length l → f (get_or l k d) ≡ g (get_or l k d)) → keep_if f l ≡ keep_if g l
  unfolding keep_if
  filter-cong f g [] d h = refl
  filter-cong f g (x ∷ l) d h =
      let rest : keep_if f l ≡ keep_if g l = filter-cong f g l d (λ k lt. h (suc k) (omega arith)) in
      λ i. elim (h 0 (omega arith) i) [ true ↦ x ∷ rest i | false ↦ rest i ]

  -- where every entry passes, all are kept
  pub filter-all : (f : A → Bool) (l : List A) (d : A) → ((k : ℕ) → k < length l → f (get_or l k d) ≡ true) → keep_if f l ≡ l
  unfolding keep_if
  filter-all f [] d h = refl
  filter-all f (x ∷ l) d h = rw (h 0 (omega arith), keep_if) (ap (λ (r : List A). x ∷ r) (filter-all f l d (λ k lt. h (suc k) (omega arith))))

  -- what two tests in turn keep
  pub filter-filter : (f g : A → Bool) (l : List A) → keep_if f (keep_if g l) ≡ keep_if (λ x. g x && f x) l
  unfolding keep_if
  filter-filter f g [] = refl
  filter-filter f g (x ∷ l) = go (g x) (filter-filter f g l)
    where
      go : (b : Bool) → keep_if f (keep_if g l) ≡ keep_if (λ x. g x && f x) l
          → keep_if f (elim b [ true ↦ x ∷ keep_if g l | false ↦ keep_if g l ])
          ≡ (elim (b && f x) [ true ↦ x ∷ keep_if (λ x. g x && f x) l | false ↦ keep_if (λ x. g x && f x) l ])
      go true ih = ap (λ (r : List A). elim (f x) [ true ↦ x ∷ r | false ↦ r ]) ih
      go false ih = ih

-- one more test is passed
count_set : (bs : List Bool) (k : ℕ) → k < length bs → get_or bs k false ≡ false → count_true (set bs k true) ≡ suc (count_true bs)
unfolding count_true
count_set [] k h e = absurd (not-suc-le-zero h)
count_set (true ∷ bs) zero h e = absurd (true≢false e)
count_set (false ∷ bs) zero h e = refl
count_set (true ∷ bs) (suc k) h e = ap suc (count_set bs k (le_of_suc-le-suc h) e)
count_set (false ∷ bs) (suc k) h e = count_set bs k (le_of_suc-le-suc h) e

-- ---- The list of a queue

-- record j stands at the rank
abbrev pub Stands : (N : ℕ) (P : ℕ → Position) (slot rank j : ℕ) → Type 0
Stands N P slot rank j = (j < N) × ((P j).queue ≡ suc slot) × ((P j).rank ≡ rank)

-- The list has n entries, and entry k stands at rank k.
pub record Listed (N : ℕ) (P : ℕ → Position) (slot n : ℕ) (l : List ℕ) : Type 0 where
  pub long : length l ≡ n
  pub entry : (k d : ℕ) → k < n → Stands N P slot k (get_or l k d)

module _ {N : ℕ} {P : ℕ → Position} {slot n : ℕ} where
  stands_one : {k i j : ℕ} → Ranked N P slot n → Stands N P slot k i → Stands N P slot k j → i ≡ j
  stands_one {k} {i} {j} r (h, q, e) (h', q', e') = r.one i j h h' q q' (e ∙ sym e')

  -- there is one such list
  listed-one : {l l' : List ℕ} → Ranked N P slot n → Listed N P slot n l → Listed N P slot n l' → l ≡ l'
  listed-one {l} {l'} r p p' =
      ext_get_or 0 l l' (p.long ∙ sym p'.long)
      (λ k h. let h' : k < n = omega (arith, p.long) in stands_one r (p.entry k 0 h') (p'.entry k 0 h'))

  listed-agree : {P' : ℕ → Position} {l : List ℕ} → ((j : ℕ) → j < N → Agree slot (P j) (P' j)) → Listed N P slot n l → Listed N P' slot n l
  listed-agree ag p =
      record {
        long = p.long;
        entry =
            λ k d h.
            let (j, q, e) = p.entry k d h in
            let s = (ag _ j).0 q in
            (j, ap (λ (p : Position). p.queue) s ∙ q, ap (λ (p : Position). p.rank) s ∙ e);
      }

came-at : {rank k r r' : ℕ} → rank ≡ k → Came rank r r' → Came k r r'
came-at {r} {r'} e c = subst (λ (k : ℕ). Came k r r') e c

-- Record t is put in at a rank, and the others come to where they stand then.
listed-put : {N : ℕ} {P P' : ℕ → Position} {slot n n' : ℕ} {l : List ℕ} (t rank : ℕ) → suc n ≡ n' → rank ≤ n → Stands N P' slot rank t
    → ((j : ℕ) → j < N → (P j).queue ≡ suc slot → ((P' j).queue ≡ suc slot) × Came rank (P j).rank (P' j).rank)
    → Listed N P slot n l → Listed N P' slot n' (take rank l ++ t ∷ drop rank l)
listed-put {N} {P} {P'} {slot} {n} {n'} {l} t rank e le s came p =
    record {
      long = length-put l rank t ∙ ap suc p.long ∙ e;
      entry = λ k d h. entry k d (omega arith) (same? k rank) (lt-or-ge k rank);
    }
  where
    came-to : {k j : ℕ} (i : ℕ) → Stands N P slot k i → Came rank k j → Stands N P' slot j i
    came-to i (h, q, e) to = let (q', c) = came i h q in (h, q', (came-order c to).2 e)

    entry : (k d : ℕ) → k < suc n → (k ≡ rank) ⊎ (k ≡ rank → ⊥) → (k < rank) ⊎ (rank ≤ k) → Stands N P' slot k (get_or (take rank l ++ t ∷ drop rank l) k d)
    entry k d h (inl e) c = rw (e, get_or_at (take rank l) t (drop rank l) d rank (length-take-le rank l (omega (arith, p.long)))) s
    entry k d h (inr ne) (inl lt) =
        rw (put-before l rank t k d lt (omega (arith, p.long))) (came-to (get_or l k d) (p.entry k d (omega arith)) (Came.before lt refl))
    entry zero d h (inr ne) (inr ge) = absurd (ne (omega arith))
    entry (suc k) d h (inr ne) (inr ge) =
        let le : rank ≤ k = omega arith in
        rw (put-behind l rank t k d le) (came-to (get_or l k d) (p.entry k d (omega arith)) (Came.after le refl))

-- ---- The queue of a slot in a table

-- the position of record j of the table
abbrev pub positions : {A : Type 0} → (A → Position) → A → List A → ℕ → Position
positions position a xs j = position (get_or xs j a)

-- The table has N records, and those in the queue of the slot have the ranks 0 to n-1, each exactly once.
pub record RankedTable {A : Type 0} (position : A → Position) (a : A) (N slot n : ℕ) (xs : List A) : Type 0 where
  pub long : length xs ≡ N
  pub ranks : Ranked N (positions position a xs) slot n

module _ {A : Type 0} {position : A → Position} {a : A} {N slot n : ℕ} {xs : List A} (table : RankedTable position a N slot n xs) where
  record-at : {k j : ℕ} → Stands N (positions position a xs) slot k j → record_at position slot k xs ≡ j
  record-at {k} {j} (h, q, e) =
      let bs : List Bool = map_with_index (λ j x. stands_at slot k (position x)) xs in
      let at : (i : ℕ) → i < N → get_or bs i false ≡ stands_at slot k (position (get_or xs i a)) =
      λ i lt. at-mapped (λ j x. stands_at slot k (position x)) xs i a false (omega (arith, table.long)) in
      let le : first_true bs ≤ j = first-least bs j (at j h ∙ and (eq-eqb _ _ q) (eq-eqb _ _ e)) in
      let lt : first_true bs < N = omega arith in
      let (q', e') = both _ _ (sym (at (first_true bs) lt) ∙ first-true bs (omega (arith, table.long, length-mapped (λ j x. stands_at slot k (position x)) xs))) in
      stands_one table.ranks (lt, eqb-true _ _ q', eqb-true _ _ e') (h, q, e)

  -- the record at the rank of record j is j
  pub at-rank : (j : ℕ) → j < N → (position (get_or xs j a)).queue ≡ suc slot → record_at position slot (position (get_or xs j a)).rank xs ≡ j
  at-rank j h q = record-at (h, q, refl)

  -- entry k is the record at rank k
  pub at-by-rank : (k d : ℕ) → k < n → get_or (by_rank position slot n xs) k d ≡ record_at position slot k xs
  unfolding by_rank
  at-by-rank k d h =
      at_map (λ r. record_at position slot r xs) (numbers_from 0 n) k 0 d (omega (arith, length-range 0 n))
      ∙ ap (λ (r : ℕ). record_at position slot r xs) (at-range 0 n k 0 h ∙ zero-add k)

  pub length-by-rank : length (by_rank position slot n xs) ≡ n
  unfolding by_rank
  length-by-rank = length-map (numbers_from 0 n) _ ∙ length-range 0 n

  pub by-rank-listed : Listed N (positions position a xs) slot n (by_rank position slot n xs)
  by-rank-listed =
      record {
        long = length-by-rank;
        entry =
            λ k d h.
            let (j, lt, q, e) = table.ranks.some k h in
            subst (Stands N (positions position a xs) slot k) (sym (at-by-rank k d h ∙ record-at (lt, q, e))) (lt, q, e);
      }

  -- there is no other such list
  pub is-by-rank : {l : List ℕ} → Listed N (positions position a xs) slot n l → l ≡ by_rank position slot n xs
  is-by-rank p = listed-one table.ranks p by-rank-listed

  -- every record of the queue is an entry
  pub in_list : (d j : ℕ) → j < N → (position (get_or xs j a)).queue ≡ suc slot → (k : ℕ) × (k < n) × (get_or (by_rank position slot n xs) k d ≡ j)
  in_list d j h q =
      let lt : (position (get_or xs j a)).rank < n = table.ranks.below j h q in
      ((position (get_or xs j a)).rank, lt, at-by-rank _ d lt ∙ at-rank j h q)

-- ---- How many records are in the queue

module _ {A : Type 0} (xs : List A) (a : A) (slot : ℕ) where
  -- which records are in the queue, where record j has the position P j
  abbrev members : (ℕ → Position) → List Bool
  members P = map_with_index (λ j x. in_queue slot (P j)) xs

  length-members : (P : ℕ → Position) → length (members P) ≡ length xs
  length-members P = length-mapped _ xs

  -- one less with record t taken out
  count-taken : (P : ℕ → Position) (t : ℕ) → t < length xs → (P t).queue ≡ suc slot
      → count_true (members P) ≡ suc (count_true (members (λ j. taken_out t slot (P t).rank j (P j))))
  count-taken P t here q =
      ap count_true (sym (is_mapped _ xs (set (members P') t true) a false (length-set (members P') t true ∙ length-members P') (λ i lt. same i lt (same? i t))))
      ∙ count_set (members P') t (omega (arith, length-members P'))
      (at-mapped _ xs t a false here ∙ ap (in_queue slot) (out-itself t slot (P t).rank (P t)) ∙ ne_eqb 0 (suc slot) (λ z. omega arith))
    where
      P' : ℕ → Position
      P' j = taken_out t slot (P t).rank j (P j)

      same : (i : ℕ) → i < length xs → (i ≡ t) ⊎ (i ≡ t → ⊥) → get_or (set (members P') t true) i false ≡ in_queue slot (P i)
      same i lt (inl e) = rw e (get_or-set_same (members P') t true false (omega (arith, length-members P')) ∙ sym (eq-eqb _ _ q))
      same i lt (inr ne) =
          get_or-set_other (members P') t i true false ne ∙ at-mapped _ xs i a false lt
          ∙ ap (λ (m : ℕ). eqb m (suc slot)) (out-moved t slot (P t).rank i (P i) ne).0

  count-members : (n : ℕ) (P : ℕ → Position) → Ranked (length xs) P slot n → count_true (members P) ≡ n
  count-members zero P r = count_none (members P) (λ i. none i (lt-or-ge i (length xs)))
    where
      none : (i : ℕ) → (i < length xs) ⊎ (length xs ≤ i) → get_or (members P) i false ≡ false
      none i (inl lt) = at-mapped _ xs i a false lt ∙ ne_eqb _ _ (λ q. not-suc-le-zero (r.below i lt q))
      none i (inr ge) = get_or-eq_default (members P) false {n = i} (omega (arith, length-members P))
  count-members (suc n) P r =
      let (t, here, q, e) = r.some 0 (omega arith) in
      let fewer : suc n - 1 ≡ n = omega arith in
      count-taken P t here q ∙ ap suc (count-members n _ (subst (Ranked (length xs) _ slot) fewer (take_out (length xs) P slot (suc n) t here q r)))

pub counted : {A : Type 0} {position : A → Position} {a : A} {N slot n : ℕ} {xs : List A} → RankedTable position a N slot n xs
    → count_true (map_with_index (λ j x. in_queue slot (position x)) xs) ≡ n
counted {A} {position} {a} {N} {slot} {n} {xs} table =
    ap count_true (mapped-cong _ _ xs xs a a false refl (λ i h. refl))
    ∙ count-members xs a slot n (positions position a xs) (subst (λ (m : ℕ). Ranked m (positions position a xs) slot n) (sym table.long) table.ranks)

-- a queue holds at most all records
pub held-bound : {A : Type 0} {position : A → Position} {a : A} {N slot n : ℕ} {xs : List A} → RankedTable position a N slot n xs → n ≤ N
held-bound {position = position} {slot = slot} {xs = xs} table =
    omega (arith, counted table, count-bound (map_with_index (λ j x. in_queue slot (position x)) xs), length-mapped (λ j x. in_queue slot (position x)) xs, table.long)

-- ---- What the steps make of the list

-- equal positions agree for every queue
pub alike : {slot : ℕ} {p p' : Position} → p' ≡ p → Agree slot p p'
alike e = (λ q. e, λ q. sym (ap (λ (p : Position). p.queue) e) ∙ q)

-- a table whose positions agree with ranked ones
pub agree-table : {A : Type 0} {position : A → Position} {a : A} {N slot n : ℕ} {xs : List A} {P : ℕ → Position} → length xs ≡ N → Ranked N P slot n
    → ((j : ℕ) → j < N → Agree slot (P j) (position (get_or xs j a))) → RankedTable position a N slot n xs
agree-table {P = P} long r ag = record { long = long; ranks = frame _ P _ _ _ (λ j h. (ag j h).0) (λ j h. (ag j h).1) r }

-- each position of the table is changed by f
abbrev pub Changed : {A : Type 0} → (A → Position) → A → (N : ℕ) → (xs xs' : List A) → (ℕ → Position → Position) → Type 0
Changed position a N xs xs' f = (j : ℕ) → j < N → position (get_or xs' j a) ≡ f j (position (get_or xs j a))

module _ {A : Type 0} {position : A → Position} {a : A} {N slot n : ℕ} {xs : List A} (table : RankedTable position a N slot n xs)
    (xs' : List A) (long' : length xs' ≡ N) where
  -- a step on another queue
  pub same-list : ((j : ℕ) → j < N → Agree slot (position (get_or xs j a)) (position (get_or xs' j a))) → by_rank position slot n xs' ≡ by_rank position slot n xs
  same-list ag = sym (is-by-rank (agree-table long' table.ranks ag) (listed-agree ag (by-rank-listed table)))

  -- Record t, which stands in no queue, is put in at a rank.
  module _ (t rank : ℕ) (here : t < N) (free : (position (get_or xs t a)).queue ≡ 0) (le : rank ≤ n) (to : Changed position a N xs xs' (inserted t slot rank)) where
    pub inserted-table : RankedTable position a N slot (suc n) xs'
    inserted-table = agree-table long' (insert N (positions position a xs) slot n t rank here free le table.ranks) (λ j h. alike (to j h))

    pub inserted-list : by_rank position slot (suc n) xs' ≡ take rank (by_rank position slot n xs) ++ t ∷ drop rank (by_rank position slot n xs)
    inserted-list =
        let there = in_itself t slot rank (position (get_or xs t a)) in
        sym
        (is-by-rank inserted-table
        (listed-agree (λ j h. alike (to j h))
        (listed-put t rank refl le (here, ap (λ (p : Position). p.queue) there, ap (λ (p : Position). p.rank) there)
        (is N (positions position a xs) slot n t rank here free le table.ranks) (by-rank-listed table))))

  -- Record t, which stands at rank k, is taken out.
  module _ (t k : ℕ) (s : Stands N (positions position a xs) slot k t) (to : Changed position a N xs xs' (taken_out t slot k)) where
    to-rank : Changed position a N xs xs' (taken_out t slot (position (get_or xs t a)).rank)
    to-rank j h = to j h ∙ ap (λ (k : ℕ). taken_out t slot k j (position (get_or xs j a))) (sym s.2)

    pub taken-table : RankedTable position a N slot (n - 1) xs'
    taken-table = agree-table long' (take_out N (positions position a xs) slot n t s.0 s.1 table.ranks) (λ j h. alike (to-rank j h))

    pub taken-from : by_rank position slot n xs ≡ take k (by_rank position slot (n - 1) xs') ++ t ∷ drop k (by_rank position slot (n - 1) xs')
    taken-from =
        let lt : (position (get_or xs t a)).rank < n = table.ranks.below t s.0 s.1 in
        sym
        (is-by-rank table
        (listed-put t k (omega arith) (omega arith) s
        (λ j h x. let (ne, q, l) = stayed N (positions position a xs) slot n t s.0 s.1 table.ranks j h x in (q, came-at s.2 l))
        (listed-agree (λ j h. alike (sym (to-rank j h))) (by-rank-listed taken-table))))

    -- t is no entry afterwards
    taken-gone : (i : ℕ) → i < n - 1 → get_or (by_rank position slot (n - 1) xs') i 0 ≡ t → ⊥
    taken-gone i h e =
        let q : (position (get_or xs' t a)).queue ≡ suc slot =
        subst (λ (j : ℕ). (position (get_or xs' j a)).queue ≡ suc slot) e ((by-rank-listed taken-table).entry i 0 h).1 in
        let z : (position (get_or xs' t a)).queue ≡ 0 = ap (λ (p : Position). p.queue) (to t s.0 ∙ out-itself t slot k (position (get_or xs t a))) in
        omega arith

    pub taken-out-list : by_rank position slot (n - 1) xs' ≡ keep_if (λ j. not (eqb j t)) (by_rank position slot n xs)
    taken-out-list =
        let l : List ℕ = by_rank position slot (n - 1) xs' in
        let f : ℕ → Bool = λ j. not (eqb j t) in
        sym
        (ap (keep_if f) taken-from ∙ filter-put f l k t (ap not (eq-eqb t t refl))
        ∙ filter-all f l 0 (λ i h. ap not (ne_eqb (get_or l i 0) t (taken-gone i (omega (arith, length-by-rank taken-table))))))

  pub taken-first : (t : ℕ) → Stands N (positions position a xs) slot 0 t → Changed position a N xs xs' (taken_out t slot 0)
      → by_rank position slot n xs ≡ t ∷ by_rank position slot (n - 1) xs'
  taken-first t s to = taken-from t 0 s to
