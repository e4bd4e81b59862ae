-- Laws of the list functions of `specs/Lists.antt`. Assumes nothing.
use Prim.Native.Nat.{ℕ, zero, suc, ◌+◌, ◌*◌, ◌/◌, ◌≤◌, ◌<◌, min}
use native.Mathlib.Nat.{add-zero, add-suc, suc-add, zero-add, le_of_suc-le-suc, not-suc-le-zero}
use native.Mathlib.Omega.{arith}
use mathlib.Core.Path.{◌≡◌, refl, sym, ap, ◌∙◌, subst}
use mathlib.Core.Bool.{Bool, true, false, ◌&&◌, true≢false, false≢true}
use mathlib.Core.List.{List, [], ◌∷◌}
use lib.ListN.{length, get_or, set, drop, length-set}
use lib.Seq.{ext_get_or, drop-cons, drop-length, get_or-set_same, get_or-set_other}
use native.Mathlib.Numerals.{add-one}
use mathlib.Core.Logic.{⊎_elim}
use Rattle.std.specs.Prelude.{if◌then◌else◌}
use Rattle.ranks.specs.Lists.{map_from_index, map_with_index, all_true, all_zero, count_true, first_true, mask, bit, numbers_from, sum_of, minimum}
use Rattle.ranks.proofs.Tests.{same?, lt-or-ge}
use lib.Dec.{eqb, leb, ltb}
use borrow.Author.Tests.{leb-true, leb-false, lt-ltb, le-ltb}

module _ {A B : Type 0} where
  length-mapped-from : (k : ℕ) (f : ℕ → A → B) (l : List A) → length (map_from_index k f l) ≡ length l
  unfolding map_from_index
  length-mapped-from k f [] = refl
  length-mapped-from k f (x ∷ l) = ap suc (length-mapped-from (suc k) f l)

  pub length-mapped : (f : ℕ → A → B) (l : List A) → length (map_with_index f l) ≡ length l
  unfolding map_with_index
  length-mapped f l = length-mapped-from 0 f l

  at-mapped-from : (k : ℕ) (f : ℕ → A → B) (l : List A) (i : ℕ) (a : A) (b : B) → i < length l → get_or (map_from_index k f l) i b ≡ f (k + i) (get_or l i a)
  unfolding map_from_index
  at-mapped-from k f [] i a b h = absurd (not-suc-le-zero h)
  at-mapped-from k f (x ∷ l) zero a b h = ap (λ (n : ℕ). f n x) (sym (add-zero k))
  at-mapped-from k f (x ∷ l) (suc i) a b h =
      at-mapped-from (suc k) f l i a b (le_of_suc-le-suc h) ∙ ap (λ (n : ℕ). f n (get_or l i a)) (suc-add k i ∙ sym (add-suc k i))

  -- record i of `each f l` is f of record i
  pub at-mapped : (f : ℕ → A → B) (l : List A) (i : ℕ) (a : A) (b : B) → i < length l → get_or (map_with_index f l) i b ≡ f i (get_or l i a)
  unfolding map_with_index
  at-mapped f l i a b h = at-mapped-from 0 f l i a b h ∙ ap (λ (n : ℕ). f n (get_or l i a)) (zero-add i)

-- two maps are equal where they are equal at each record
pub mapped-cong : {A A' B : Type 0} (f : ℕ → A → B) (g : ℕ → A' → B) (l : List A) (l' : List A') (a : A) (a' : A') (b : B)
    → length l ≡ length l' → ((i : ℕ) → i < length l → f i (get_or l i a) ≡ g i (get_or l' i a')) → map_with_index f l ≡ map_with_index g l'
mapped-cong f g l l' a a' b e h =
    ext_get_or b (map_with_index f l) (map_with_index g l') (length-mapped f l ∙ e ∙ sym (length-mapped g l'))
    (λ i lt.
    let lt₁ : i < length l = subst (λ (n : ℕ). i < n) (length-mapped f l) lt in
    let lt₂ : i < length l' = subst (λ (n : ℕ). i < n) e lt₁ in
    at-mapped f l i a b lt₁ ∙ h i lt₁ ∙ sym (at-mapped g l' i a' b lt₂))

-- ---- all

pub all-at : (bs : List Bool) → all_true bs ≡ true → (i : ℕ) → i < length bs → get_or bs i false ≡ true
unfolding all_true
all-at [] e i h = absurd (not-suc-le-zero h)
all-at (true ∷ bs) e zero h = refl
all-at (true ∷ bs) e (suc i) h = all-at bs e i (le_of_suc-le-suc h)
all-at (false ∷ bs) e i h = absurd (false≢true e)

pub all_from : (bs : List Bool) → ((i : ℕ) → i < length bs → get_or bs i false ≡ true) → all_true bs ≡ true
unfolding all_true
all_from [] h = refl
all_from (true ∷ bs) h = all_from bs (λ i lt. h (suc i) (omega arith))
all_from (false ∷ bs) h = h 0 (omega arith)

module _ {A : Type 0} (f : ℕ → A → Bool) (l : List A) (a : A) where
  pub every-at : all_true (map_with_index f l) ≡ true → (i : ℕ) → i < length l → f i (get_or l i a) ≡ true
  every-at e i h = sym (at-mapped f l i a false h) ∙ all-at (map_with_index f l) e i (subst (λ (n : ℕ). i < n) (sym (length-mapped f l)) h)

  pub every-from : ((i : ℕ) → i < length l → f i (get_or l i a) ≡ true) → all_true (map_with_index f l) ≡ true
  every-from h =
      all_from (map_with_index f l)
      (λ i lt. let lt' : i < length l = subst (λ (n : ℕ). i < n) (length-mapped f l) lt in at-mapped f l i a false lt' ∙ h i lt')

-- a list of tests as a product of facts
abbrev pub Holds : List Bool → Type 0
Holds [] = Unit {0}
Holds (b ∷ bs) = (b ≡ true) × Holds bs

pub holds : (bs : List Bool) → all_true bs ≡ true → Holds bs
unfolding all_true
holds [] e = tt
holds (true ∷ bs) e = (refl, holds bs e)
holds (false ∷ bs) e = absurd (false≢true e)

pub held : (bs : List Bool) → Holds bs → all_true bs ≡ true
unfolding all_true
held [] h = refl
held (true ∷ bs) h = held bs h.1
held (false ∷ bs) h = h.0

-- ---- first

pub first-true : (bs : List Bool) → first_true bs < length bs → get_or bs (first_true bs) false ≡ true
unfolding first_true
first-true [] h = absurd (not-suc-le-zero h)
first-true (true ∷ bs) h = refl
first-true (false ∷ bs) h = first-true bs (le_of_suc-le-suc h)

pub first-least : (bs : List Bool) (i : ℕ) → get_or bs i false ≡ true → first_true bs ≤ i
unfolding first_true
first-least [] i e = absurd (false≢true e)
first-least (true ∷ bs) i e = omega arith
first-least (false ∷ bs) zero e = absurd (false≢true e)
first-least (false ∷ bs) (suc i) e = let ih : first_true bs ≤ i = first-least bs i e in omega arith

-- ---- mask

abbrev pub one : Bool → ℕ
one true = 1
one false = 0

pub bit_mask : (bs : List Bool) (t : ℕ) → bit t (mask bs) ≡ one (get_or bs t false)
unfolding mask bit
bit_mask [] zero = refl
bit_mask [] (suc t) = bit_mask [] t
bit_mask (true ∷ bs) zero = omega arith
bit_mask (true ∷ bs) (suc t) = let e : (1 + 2 * mask bs) / 2 ≡ mask bs = omega arith in ap (bit t) e ∙ bit_mask bs t
bit_mask (false ∷ bs) zero = omega arith
bit_mask (false ∷ bs) (suc t) = let e : (2 * mask bs) / 2 ≡ mask bs = omega arith in ap (bit t) e ∙ bit_mask bs t

-- ---- count

pub count-bound : (bs : List Bool) → count_true bs ≤ length bs
unfolding count_true
count-bound [] = omega arith
count-bound (true ∷ bs) = let ih : count_true bs ≤ length bs = count-bound bs in omega arith
count-bound (false ∷ bs) = let ih : count_true bs ≤ length bs = count-bound bs in omega arith

pub count_none : (bs : List Bool) → ((i : ℕ) → get_or bs i false ≡ false) → count_true bs ≡ 0
unfolding count_true
count_none [] h = refl
count_none (true ∷ bs) h = absurd (true≢false (h 0))
count_none (false ∷ bs) h = count_none bs (λ i. h (suc i))

pub none-count : (bs : List Bool) → count_true bs ≡ 0 → (i : ℕ) → get_or bs i false ≡ false
unfolding count_true
none-count [] e i = refl
none-count (true ∷ bs) e i = absurd (let z : 1 ≤ 0 = omega arith in not-suc-le-zero z)
none-count (false ∷ bs) e zero = refl
none-count (false ∷ bs) e (suc i) = none-count bs e i

-- exactly one test is passed
pub record OnlyOne (bs : List Bool) : Type 0 where
  pub index : ℕ
  pub passes : get_or bs index false ≡ true
  pub only : (j : ℕ) → get_or bs j false ≡ true → j ≡ index

pub count-one : (bs : List Bool) → count_true bs ≡ 1 → OnlyOne bs
unfolding count_true
count-one [] e = absurd (let z : 1 ≤ 0 = omega arith in not-suc-le-zero z)
count-one (true ∷ bs) e =
    record { index = 0; passes = refl; only = λ j p. go j p }
  where
    go : (j : ℕ) → get_or (true ∷ bs) j false ≡ true → j ≡ 0
    go zero p = refl
    go (suc j) p = absurd (true≢false (sym p ∙ none-count bs (omega arith) j))
count-one (false ∷ bs) e =
    let r : OnlyOne bs = count-one bs e in
    record { index = suc r.index; passes = r.passes; only = λ j p. go r j p }
  where
    go : (r : OnlyOne bs) (j : ℕ) → get_or (false ∷ bs) j false ≡ true → j ≡ suc r.index
    go r zero p = absurd (false≢true p)
    go r (suc j) p = ap suc (r.only j p)

pub one-count : (bs : List Bool) (i : ℕ) → get_or bs i false ≡ true → ((j : ℕ) → get_or bs j false ≡ true → j ≡ i) → count_true bs ≡ 1
unfolding count_true
one-count [] i p only = absurd (false≢true p)
one-count (true ∷ bs) i p only = ap suc (count_none bs (λ j. none j (get_or bs j false) refl))
  where
    none : (j : ℕ) (b : Bool) → get_or bs j false ≡ b → get_or bs j false ≡ false
    none j true e = absurd (let z : suc j ≡ 0 = only (suc j) e ∙ sym (only 0 refl) in let z' : 1 ≤ 0 = omega arith in not-suc-le-zero z')
    none j false e = e
one-count (false ∷ bs) zero p only = absurd (false≢true p)
one-count (false ∷ bs) (suc i) p only = one-count bs i p (λ j q. let e : suc j ≡ suc i = only (suc j) q in omega arith)

-- ---- from

pub length-range : (i n : ℕ) → length (numbers_from i n) ≡ n
unfolding numbers_from
length-range i zero = refl
length-range i (suc n) = ap suc (length-range (suc i) n)

pub at-range : (i n k d : ℕ) → k < n → get_or (numbers_from i n) k d ≡ i + k
unfolding numbers_from
at-range i zero k d h = absurd (not-suc-le-zero h)
at-range i (suc n) zero d h = sym (add-zero i)
at-range i (suc n) (suc k) d h = at-range (suc i) n k d (le_of_suc-le-suc h) ∙ suc-add i k ∙ sym (add-suc i k)

-- ---- sum

-- two lists that differ at one place, by n
pub sum-at : (l l' : List ℕ) (k n : ℕ) → k < length l → length l ≡ length l' → ((i : ℕ) → i < length l → (i ≡ k → ⊥) → get_or l i 0 ≡ get_or l' i 0)
    → get_or l' k 0 ≡ get_or l k 0 + n → sum_of l' ≡ sum_of l + n
unfolding sum_of
sum-at [] l' k n h e o d = absurd (not-suc-le-zero h)
sum-at (x ∷ l) [] k n h e o d = absurd (let z : 1 ≤ 0 = omega arith in not-suc-le-zero z)
sum-at (x ∷ l) (y ∷ l') zero n h e o d =
    let z : sum_of l ≡ sum_of l' = ap sum_of (ext_get_or 0 l l' (omega arith) (λ i h. o (suc i) (omega arith) (λ z. omega arith))) in
    omega arith
sum-at (x ∷ l) (y ∷ l') (suc k) n h e o d =
    let ih : sum_of l' ≡ sum_of l + n = sum-at l l' k n (omega arith) (omega arith) (λ i h ne. o (suc i) (omega arith) (λ z. ne (omega arith))) d in
    let z : x ≡ y = o 0 (omega arith) (λ z. omega arith) in
    omega arith

-- ---- least

pub minimum-bound : (n : ℕ) (l : List ℕ) → minimum n l ≤ n
unfolding minimum
minimum-bound n [] = omega arith
minimum-bound n (m ∷ l) = let ih : minimum n l ≤ n = minimum-bound n l in omega arith

pub minimum-at : (n : ℕ) (l : List ℕ) (i : ℕ) → i < length l → minimum n l ≤ get_or l i 0
unfolding minimum
minimum-at n [] i h = absurd (not-suc-le-zero h)
minimum-at n (m ∷ l) zero h = omega arith
minimum-at n (m ∷ l) (suc i) h = let ih : minimum n l ≤ get_or l i 0 = minimum-at n l i (omega arith) in omega arith

-- below n it is one of the numbers
pub minimum-is : (n : ℕ) (l : List ℕ) → minimum n l < n → (i : ℕ) × (i < length l) × (get_or l i 0 ≡ minimum n l)
unfolding minimum
minimum-is n [] h = absurd (omega arith)
minimum-is n (m ∷ l) h = go (leb m (minimum n l)) refl (minimum-is n l)
  where
    T : Type 0
    T = (i : ℕ) × (i < suc (length l)) × (get_or (m ∷ l) i 0 ≡ min m (minimum n l))

    go : (b : Bool) → leb m (minimum n l) ≡ b → (minimum n l < n → (i : ℕ) × (i < length l) × (get_or l i 0 ≡ minimum n l)) → T
    go true e ih = let le : m ≤ minimum n l = leb-true _ _ e in (0, omega arith, omega arith)
    go false e ih =
        let lt : minimum n l < m = leb-false _ _ e in
        let (i, k, q) = ih (omega arith) in
        (suc i, omega arith, q ∙ omega arith)

-- the search for the first, from record i on
module _ (bs : List Bool) (i : ℕ) (inv : first_true bs ≡ i + first_true (drop i bs)) where
  pub first_more : i < length bs → get_or bs i false ≡ false → first_true bs ≡ i + 1 + first_true (drop (i + 1) bs)
  unfolding first_true
  first_more h e =
      inv ∙ ap (λ (l : List Bool). i + first_true l) (drop-cons bs i false h) ∙ ap (λ (b : Bool). i + first_true (b ∷ drop (suc i) bs)) e
      ∙ rw add-one (omega arith)

  pub first-here : i < length bs → get_or bs i false ≡ true → i ≡ first_true bs
  unfolding first_true
  first-here h e =
      sym (inv ∙ ap (λ (l : List Bool). i + first_true l) (drop-cons bs i false h) ∙ ap (λ (b : Bool). i + first_true (b ∷ drop (suc i) bs)) e ∙ add-zero i)

  pub first-none : i ≡ length bs → i ≡ first_true bs
  unfolding first_true
  first-none h = sym (inv ∙ ap (λ (k : ℕ). i + first_true (drop k bs)) h ∙ ap (λ (l : List Bool). i + first_true l) (drop-length bs) ∙ add-zero i)

-- ---- a table changed record by record from the front

-- `f` of each record below `i`, and the others as they are
unfoldable pub up_to : {A : Type 0} → (ℕ → A → A) → ℕ → List A → List A
up_to f i l = map_with_index (λ j x. if ltb j i then f j x else x) l

-- two lists of the same length that are equal at each record
pub is_mapped : {A B : Type 0} (f : ℕ → A → B) (l : List A) (m : List B) (a : A) (b : B) → length m ≡ length l
    → ((i : ℕ) → i < length l → get_or m i b ≡ f i (get_or l i a)) → m ≡ map_with_index f l
is_mapped f l m a b e h =
    ext_get_or b m (map_with_index f l) (e ∙ sym (length-mapped f l))
    (λ i lt. let lt' : i < length l = subst (λ (n : ℕ). i < n) e lt in h i lt' ∙ sym (at-mapped f l i a b lt'))

module _ {A : Type 0} (f : ℕ → A → A) (l : List A) (d : A) where
  pub up_to-none : l ≡ up_to f 0 l
  unfolding up_to
  up_to-none = is_mapped _ l l d d refl (λ i h. rw (le-ltb i 0 (omega arith)))

  pub length-up_to : (i : ℕ) → length (up_to f i l) ≡ length l
  unfolding up_to
  length-up_to i = length-mapped _ l

  pub at-up_to : (i : ℕ) → i < length l → get_or (up_to f i l) i d ≡ get_or l i d
  unfolding up_to
  at-up_to i h = at-mapped _ l i d d h ∙ rw (le-ltb i i (omega arith))

  pub up_to-turn : (i : ℕ) → i < length l → set (up_to f i l) i (f i (get_or l i d)) ≡ up_to f (i + 1) l
  unfolding up_to
  up_to-turn i h = is_mapped _ l _ d d (length-set (up_to f i l) i (f i (get_or l i d)) ∙ length-up_to i) same
    where
      same : (j : ℕ) → j < length l → get_or (set (up_to f i l) i (f i (get_or l i d))) j d ≡ (if ltb j (i + 1) then f j (get_or l j d) else get_or l j d)
      same j lt =
          ⊎_elim
          (λ (e : j ≡ i).
          rw (e, lt-ltb i (i + 1) (omega arith)) (get_or-set_same (up_to f i l) i (f i (get_or l i d)) d (omega (arith, length-up_to i))))
          (λ ne. get_or-set_other (up_to f i l) i j (f i (get_or l i d)) d ne ∙ at-mapped _ l j d d lt ∙ ap (λ (b : Bool). if b then f j (get_or l j d) else get_or l j d) (test ne))
          (same? j i)
        where
          test : (j ≡ i → ⊥) → ltb j i ≡ ltb j (i + 1)
          test ne = ⊎_elim (λ (h : j < i). lt-ltb j i h ∙ sym (lt-ltb j (i + 1) (omega arith))) (λ (h : i ≤ j). le-ltb j i h ∙ sym (le-ltb j (i + 1) (below ne h))) (lt-or-ge j i)
            where
              below : (j ≡ i → ⊥) → i ≤ j → i + 1 ≤ j
              below ne h = ⊎_elim (λ (k : i < j). omega arith) (λ (k : j ≤ i). absurd (ne (omega arith))) (lt-or-ge i j)

  pub up_to-all : (n : ℕ) → length l ≡ n → up_to f n l ≡ map_with_index f l
  unfolding up_to
  up_to-all n e = mapped-cong _ f l l d d d refl (λ i h. rw (lt-ltb i n (omega arith)))

-- ---- the search for a test that fails, from record i on

module _ (bs : List Bool) (i : ℕ) (inv : all_true bs ≡ all_true (drop i bs)) where
  pub all_more : i < length bs → get_or bs i false ≡ true → all_true bs ≡ all_true (drop (i + 1) bs)
  unfolding all_true
  all_more h e =
      inv ∙ ap all_true (drop-cons bs i false h) ∙ ap (λ (b : Bool). all_true (b ∷ drop (suc i) bs)) e ∙ ap (λ (k : ℕ). all_true (drop k bs)) (sym (add-one i))

  pub all-stop : i < length bs → get_or bs i false ≡ false → false ≡ all_true bs
  unfolding all_true
  all-stop h e = sym (inv ∙ ap all_true (drop-cons bs i false h) ∙ ap (λ (b : Bool). all_true (b ∷ drop (suc i) bs)) e)

  pub all_end : i ≡ length bs → true ≡ all_true bs
  unfolding all_true
  all_end h = sym (inv ∙ ap (λ (k : ℕ). all_true (drop k bs)) h ∙ ap all_true (drop-length bs))

pub all_cons : (b : Bool) (bs : List Bool) → all_true (b ∷ bs) ≡ b && all_true bs
unfolding all_true
all_cons true bs = refl
all_cons false bs = refl

pub all_nil : all_true [] ≡ true
unfolding all_true
all_nil = refl

pub zeros-cons : (n : ℕ) (ns : List ℕ) → all_zero (n ∷ ns) ≡ eqb n 0 && all_zero ns
unfolding all_zero
zeros-cons n ns = go (eqb n 0)
  where
    go : (b : Bool) → (elim b [ true ↦ all_zero ns | false ↦ false ]) ≡ b && all_zero ns
    go true = refl
    go false = refl

pub zeros-nil : all_zero [] ≡ true
unfolding all_zero
zeros-nil = refl
