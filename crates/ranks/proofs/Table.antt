-- Laws of tables of records. Assumes nothing.
use native.Mathlib.Omega.{arith}
use Prim.Native.Nat.{ℕ, zero, suc, ◌+◌, ◌*◌, ◌≤◌, ◌<◌}
use native.Mathlib.Nat.{not-suc-le-zero, zero-mul, suc-mul, mul-le-mul_right, zero-add, suc-add}
use mathlib.Core.Path.{◌≡◌, refl, sym, ap, ap₂, ◌∙◌, subst}
use mathlib.Core.Logic.{⊎_elim}
use mathlib.Core.List.{List, [], ◌∷◌, ◌++◌, append_assoc}
use lib.ListN.{length, get_or, take, drop, set, length-drop}
use lib.Seq.{take-nil, length-take-le, take_at, drop_at, take-take, drop-drop, take-append-le, drop-append-le, get_or-drop, get_or-take, take-set-le, take-set-lt, drop-set-lt, drop-set-add, set-set, get_or-set_same, get_or-set_other, set-get_or}
use Rattle.std.specs.Prelude.{Option, unwrap_or}
use Rattle.ranks.specs.Position.{Position}
use Rattle.ranks.specs.Table.{slice, byte, records, spliced, position_in, put_position, moved, Shape}
use Rattle.ranks.specs.Lists.{map_with_index}
use Rattle.ranks.proofs.Lists.{is_mapped}
use Rattle.ranks.proofs.Tests.{same?}

-- ---- Records

pub length-records : (k n : ℕ) (bytes : List ℕ) → length (records k n bytes) ≡ k
unfolding records
length-records zero n bytes = refl
length-records (suc k) n bytes = ap suc (length-records k n (drop n bytes))

-- record i + 1 of the table is record i of the rest
slice-suc : (i n : ℕ) (bytes : List ℕ) → slice (i * n) n (drop n bytes) ≡ slice (suc i * n) n bytes
unfolding slice
slice-suc i n bytes = ap (take n) (drop-drop (i * n) n bytes ∙ ap (λ (j : ℕ). drop j bytes) (let e : n + i * n ≡ suc i * n = omega (arith, suc-mul i n) in e))

-- record i of a table is the bytes from i * n on
pub at_records : (k n : ℕ) (bytes : List ℕ) (i : ℕ) → i < k → get_or (records k n bytes) i [] ≡ slice (i * n) n bytes
unfolding records slice
at_records zero n bytes i h = absurd (not-suc-le-zero h)
at_records (suc k) n bytes zero h = ap (λ (j : ℕ). take n (drop j bytes)) (sym (zero-mul n))
at_records (suc k) n bytes (suc i) h = at_records k n (drop n bytes) i (omega arith) ∙ slice-suc i n bytes

-- byte k of a record is a byte of the table
pub byte-slice : (i n : ℕ) (r : List ℕ) (k : ℕ) → k < n → byte k (slice i n r) ≡ byte (i + k) r
unfolding slice
byte-slice i n r k h = get_or-take n (drop i r) k 0 h ∙ get_or-drop i r k 0

pub length-slice : (i n : ℕ) (r : List ℕ) → i + n ≤ length r → length (slice i n r) ≡ n
unfolding slice
length-slice i n r h = length-take-le n (drop i r) (omega (arith, length-drop i r))

-- record i ends before record k begins
pub before : (n i k : ℕ) → i < k → i * n + n ≤ k * n
before n i k h = rw (← suc-mul i n) (mul-le-mul_right n h)

-- ---- Writing

-- one byte of one record
pub records-set : (k n : ℕ) (t : List ℕ) (i a v : ℕ) → a < n → i < k
    → records k n (set t (i * n + a) v) ≡ set (records k n t) i (set (slice (i * n) n t) a v)
unfolding records slice
records-set zero n t i a v ha hi = absurd (not-suc-le-zero hi)
records-set (suc k) n t zero a v ha hi =
    ap (λ (m : ℕ). records (suc k) n (set t m v)) (let e : zero * n + a ≡ a = omega (arith, zero-mul n) in e)
    ∙ ap₂ {C = List (List ℕ)} (λ (x y : List ℕ). x ∷ records k n y) (take-set-lt n t a v ha) (drop-set-lt n t a v ha)
    ∙ ap (λ (m : ℕ). set (take n (drop m t)) a v ∷ records k n (drop n t)) (sym (zero-mul n))
records-set (suc k) n t (suc i) a v ha hi =
    let e : suc i * n + a ≡ n + (i * n + a) = omega (arith, suc-mul i n) in
    rw (e, take-set-le n t (n + (i * n + a)) v (omega arith), drop-set-add n t (i * n + a) v, ← slice-suc i n t)
    (ap (λ (l : List (List ℕ)). take n t ∷ l) (records-set k n (drop n t) i a v ha (omega arith)))

pub slice_set : (i n : ℕ) (r : List ℕ) (k v : ℕ) → k < n → slice i n (set r (i + k) v) ≡ set (slice i n r) k v
unfolding slice
slice_set i n r k v h = ap (take n) (drop-set-add i r k v) ∙ take-set-lt n (drop i r) k v h

-- a whole record
pub spliced-take : (n x : ℕ) (t r : List ℕ) → n + x ≤ length t → take n (spliced t (n + x) r) ≡ take n t
unfolding spliced
spliced-take n x t r h =
    let e : length (take (n + x) t) ≡ n + x = length-take-le (n + x) t h in
    ap (take n) (append_assoc (take (n + x) t) r (drop (n + x + length r) t))
    ∙ take-append-le n (take (n + x) t) (r ++ drop (n + x + length r) t) (omega arith) ∙ take-take n (n + x) t (omega arith)

pub drop-take : {A : Type 0} (n x : ℕ) (l : List A) → drop n (take (n + x) l) ≡ take x (drop n l)
drop-take zero x l = ap (λ (m : ℕ). take m l) (zero-add x)
drop-take (suc n) x [] = ap (drop (suc n)) (take-nil (suc n + x)) ∙ sym (take-nil x)
drop-take (suc n) x (a ∷ l) = ap (λ (m : ℕ). drop (suc n) (take m (a ∷ l))) (suc-add n x) ∙ drop-take n x l

pub spliced-drop : (n x : ℕ) (t r : List ℕ) → n + x ≤ length t → drop n (spliced t (n + x) r) ≡ spliced (drop n t) x r
unfolding spliced
spliced-drop n x t r h =
    let e : length (take (n + x) t) ≡ n + x = length-take-le (n + x) t h in
    let f : n + x + length r ≡ n + (x + length r) = omega arith in
    ap (drop n) (append_assoc (take (n + x) t) r (drop (n + x + length r) t))
    ∙ drop-append-le n (take (n + x) t) (r ++ drop (n + x + length r) t) (omega arith)
    ∙ ap (λ (l : List ℕ). l ++ (r ++ drop (n + x + length r) t)) (drop-take n x t)
    ∙ sym (append_assoc (take x (drop n t)) r (drop (n + x + length r) t))
    ∙ ap (λ (l : List ℕ). take x (drop n t) ++ r ++ l) (ap (λ (m : ℕ). drop m t) f ∙ sym (drop-drop (x + length r) n t))

put_first : (k n : ℕ) (t r : List ℕ) → length r ≡ n → records (suc k) n (spliced t (zero * n) r) ≡ r ∷ records k n (drop n t)
unfolding records spliced
put_first k n t r e =
    ap (λ (m : ℕ). records (suc k) n (spliced t m r)) (zero-mul n)
    ∙ ap (λ (m : ℕ). records (suc k) n (r ++ drop m t)) (zero-add (length r) ∙ e)
    ∙ ap₂ {C = List (List ℕ)} (λ (x y : List ℕ). x ∷ records k n y) (take_at r (drop n t) n e) (drop_at r (drop n t) n e)

pub records-put : (k n : ℕ) (t r : List ℕ) (i : ℕ) → length r ≡ n → i < k → i * n + n ≤ length t
    → records k n (spliced t (i * n) r) ≡ set (records k n t) i r
unfolding records
records-put zero n t r i e hi hl = absurd (not-suc-le-zero hi)
records-put (suc k) n t r zero e hi hl = put_first k n t r e
records-put (suc k) n t r (suc i) e hi hl =
    let f : suc i * n ≡ n + i * n = omega (arith, suc-mul i n) in
    rw (f, spliced-take n (i * n) t r (omega arith), spliced-drop n (i * n) t r (omega arith))
    (ap (λ (l : List (List ℕ)). take n t ∷ l) (records-put k n (drop n t) r i e (omega arith) (omega (arith, length-drop n t))))

-- the place of one record
pub records-put-position : (k n : ℕ) (t : List ℕ) (i a : ℕ) (p : Position) → a + 1 < n → i < k → i * n + n ≤ length t
    → records k n (put_position (i * n + a) p t) ≡ set (records k n t) i (put_position a p (slice (i * n) n t))
records-put-position k n t i a p ha hi hl =
    let e : i * n + a + 1 ≡ i * n + (a + 1) = omega arith in
    let u : List ℕ = set t (i * n + a) p.queue in
    let v : List ℕ = set (slice (i * n) n t) a p.queue in
    ap (λ (m : ℕ). records k n (set u m p.rank)) e
    ∙ records-set k n u i (a + 1) p.rank ha hi
    ∙ ap₂ {C = List (List ℕ)} (λ (l : List (List ℕ)) (r : List ℕ). set l i (set r (a + 1) p.rank)) (records-set k n t i a p.queue (omega arith) hi) (slice_set (i * n) n t a p.queue (omega arith))
    ∙ set-set (records k n t) i v (set v (a + 1) p.rank)

-- the place that record i says
pub position-slice : (i n a : ℕ) (t : List ℕ) → a + 1 < n → position_in (i + a) t ≡ position_in a (slice i n t)
position-slice i n a t h =
    let e : i + a + 1 ≡ i + (a + 1) = omega arith in
    λ j. record {
      queue = sym (byte-slice i n t a (omega arith)) j;
      rank = (ap (λ (m : ℕ). byte m t) e ∙ sym (byte-slice i n t (a + 1) h)) j;
    }

-- ---- The position of a record

-- record i lies in the table
pub inside : {stride place count size : ℕ} → Shape stride place count size → (i : ℕ) → i < count → i * stride + stride ≤ size
inside {stride} {place} {count} {size} s i h = omega (arith, s.whole, before stride i count h)

-- and so does its position
pub position-inside : {stride place count size : ℕ} → Shape stride place count size → (i : ℕ) → i < count → i * stride + place + 1 < size
position-inside s i h = omega (arith, s.inside, inside s i h)

module _ {n a k : ℕ} (t : List ℕ) (shape : Shape n a k (length t)) (i : ℕ) (h : i < k) where
  -- the position of record i, read
  pub position_read : position_in (i * n + a) t ≡ position_in a (get_or (records k n t) i [])
  position_read = position-slice (i * n) n a t shape.inside ∙ ap (position_in a) (sym (at_records k n t i h))

  -- and written
  pub position_written : (p : Position) → records k n (put_position (i * n + a) p t) ≡ set (records k n t) i (put_position a p (get_or (records k n t) i []))
  position_written p =
      records-put-position k n t i a p shape.inside h (inside shape i h)
      ∙ ap (λ (r : List ℕ). set (records k n t) i (put_position a p r)) (sym (at_records k n t i h))

-- ---- A loop that gives each record another position

-- The k records of `t` have the positions that `R` gives those of `t₀`, below `i`, and the others are as they were.
pub record SteppedUpTo (n a k : ℕ) (R : ℕ → Position → Position → Type 0) (t₀ t : List ℕ) (i : ℕ) : Type 0 where
  pub size : length t ≡ length t₀
  pub below : (j : ℕ) → j < i → (p : Position) × R j (position_in a (get_or (records k n t₀) j [])) p × (get_or (records k n t) j [] ≡ put_position a p (get_or (records k n t₀) j []))
  pub rest : (j : ℕ) → i ≤ j → get_or (records k n t) j [] ≡ get_or (records k n t₀) j []

-- the position that a step made of one, or the same where it made none
abbrev pub Made : (ℕ → Position → Option Position → Type 0) → ℕ → Position → Position → Type 0
Made step j p q = (other : Option Position) × step j p other × (q ≡ unwrap_or other p)

-- a position written where it stands changes nothing
pub put_same : (i : ℕ) (t : List ℕ) {p : Position} → p ≡ position_in i t → t ≡ put_position i p t
put_same i t {p} read =
    sym (ap (λ (q : Position). put_position i q t) read ∙ ap (λ (l : List ℕ). set l (i + 1) (byte (i + 1) t)) (set-get_or t i 0) ∙ set-get_or t (i + 1) 0)

module _ {n a k : ℕ} {R : ℕ → Position → Position → Type 0} {t₀ t : List ℕ} {i : ℕ} (stepped : SteppedUpTo n a k R t₀ t i) (hi : i < k) (p q : Position)
    (read : p ≡ position_in a (get_or (records k n t) i [])) (made : R i p q) where
  -- record i gets the position that the step made of the one that was read
  pub one-more-stepped : {u : List ℕ} → length u ≡ length t → records k n u ≡ set (records k n t) i (put_position a q (get_or (records k n t) i []))
      → SteppedUpTo n a k R t₀ u (i + 1)
  one-more-stepped {u} l written =
      record {
        size = l ∙ stepped.size;
        below = λ j h. ⊎_elim (λ (e : j ≡ i). subst G (sym e) here) (λ ne. before-it j (omega arith) ne) (same? j i);
        rest = λ j h. other j (λ e. omega arith) ∙ stepped.rest j (omega arith);
      }
    where
      G : ℕ → Type 0
      G j = (r : Position) × R j (position_in a (get_or (records k n t₀) j [])) r × (get_or (records k n u) j [] ≡ put_position a r (get_or (records k n t₀) j []))

      at-all : (j : ℕ) → get_or (records k n u) j [] ≡ get_or (set (records k n t) i (put_position a q (get_or (records k n t) i []))) j []
      at-all j = ap (λ (l : List (List ℕ)). get_or l j []) written

      other : (j : ℕ) → (j ≡ i → ⊥) → get_or (records k n u) j [] ≡ get_or (records k n t) j []
      other j ne = at-all j ∙ get_or-set_other (records k n t) i j _ [] ne

      here : G i
      here = (
        q,
        subst (λ (x : Position). R i x q) (read ∙ ap (position_in a) (stepped.rest i (omega arith))) made,
        at-all i ∙ get_or-set_same (records k n t) i _ [] (omega (arith, length-records k n t)) ∙ ap (put_position a q) (stepped.rest i (omega arith)),
      )

      before-it : (j : ℕ) → j < i → (j ≡ i → ⊥) → G j
      before-it j h ne = let (r, s, e) = stepped.below j h in (r, s, other j ne ∙ e)

  -- a position that stays is not written
  pub one-more-kept : {u : List ℕ} → u ≡ t → q ≡ p → SteppedUpTo n a k R t₀ u (i + 1)
  one-more-kept {u} e same =
      one-more-stepped (ap length e)
      (ap (records k n) e
      ∙ sym (ap (set (records k n t) i) (sym (put_same a (get_or (records k n t) i []) (same ∙ read))) ∙ set-get_or (records k n t) i []))

-- the table, where the step is a function
pub all-moved : (n a k : ℕ) (F : ℕ → Position → Position) (t₀ t : List ℕ)
    → ((j : ℕ) → j < k → (p : Position) × (p ≡ F j (position_in a (get_or (records k n t₀) j []))) × (get_or (records k n t) j [] ≡ put_position a p (get_or (records k n t₀) j [])))
    → records k n t ≡ map_with_index (moved a F) (records k n t₀)
unfolding moved
all-moved n a k F t₀ t h =
    is_mapped _ (records k n t₀) (records k n t) [] [] (length-records k n t ∙ sym (length-records k n t₀))
    (λ i lt. let (p, e, w) = h i (omega (arith, length-records k n t₀)) in w ∙ ap (λ (q : Position). put_position a q (get_or (records k n t₀) i [])) e)
