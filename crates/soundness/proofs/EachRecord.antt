-- What `all` answers over the records of a table, over numbers and over items. Assumes nothing.
use Prim.Native.Nat.{ℕ, zero, suc, ◌+◌, ◌*◌, ◌<◌}
use native.Mathlib.Nat.{zero-add, sub-zero, zero-mul, suc-mul}
use native.Mathlib.Omega.{arith}
use mathlib.Core.Path.{◌≡◌, refl, sym, ap, ◌∙◌}
use mathlib.Core.Bool.{Bool, true, false, true≢false}
use mathlib.Core.Logic.{⊎_elim}
use mathlib.Core.List.{List, [], map, ◌++◌}
use lib.ListN.{length, get_or, take, drop, length-append, length-drop}
use lib.Seq.{take_at, drop_at}
use denote.Param.Members.{Mut, Called}
use denote.Ref.{Bor}
use Rattle.std.specs.declared.iter.Enumerate.{Enumerate}
use Rattle.std.specs.declared.ops.Range.{Range}
use Rattle.std.specs.Bool.{MatchBool}
use Rattle.std.specs.Iterator.{ChecksAll, AlwaysYields}
use Rattle.std.specs.Slice.Iter.{iter_rest, chunks_exact_rest, chunks_exact_size, chunks_exact_steps}
use Rattle.std.specs.Iterator.Adapters.{enumerate_source, enumerate_count, enumerate_steps}
use Rattle.std.specs.List.{range_with_len, enumerate_from, AllWithin, HoldsAt}
use Rattle.std.specs.declared.slice.Iter.{Iter}
use Rattle.std.proofs.iter.Yields.{nat_range_steps, fronts}
use Rattle.std.proofs.lemmas.Iterator.{YieldsList, YieldsList-from_range, YieldsList-from_slice, cases_from_all}
use Rattle.std.proofs.lemmas.Iterator.Consumers.{YieldsList-from_enumerate}
use Rattle.std.proofs.lemmas.List.FromFn.{length-range_with_len, get_or-range_with_len, length-enumerate_from, get_or-enumerate_from}
use Rattle.std.proofs.lemmas.List.{get_or_default}
use Rattle.ranks.specs.Lists.{all_true, every, map_with_index, numbers_from}
use Rattle.ranks.specs.Table.{records, slice}
use Rattle.ranks.proofs.Lists.{all-at, all_from, at-mapped, length-mapped, at-range, length-range}
use Rattle.ranks.proofs.Table.{length-records, at_records, length-slice, before}
use Rattle.ranks.proofs.Tests.{either}
use Rattle.records.proofs.Writing.{at_table, length-decoded}

-- `all` over a list, where what the closure says of item i is test i
decided : {B : Type 0} (bs : List Bool) (items : List B) (Says : Bool → B → Type 0) → length items ≡ length bs
    → ((b : Bool) (i : ℕ) → i < length bs → HoldsAt (Says b) items i → get_or bs i false ≡ b)
    → (r : Bool) → MatchBool r (AllWithin (Says true) items 0 (length items)) ((k : ℕ) × (k < length items) × HoldsAt (Says false) items k) → r ≡ all_true bs
decided bs items Says long at true h = sym (all_from bs (λ i lt. at true i lt (λ d. h i d (omega arith) (omega arith))))
decided bs items Says long at false h =
    ⊎_elim
    (λ e. let lt : h.0 < length bs = omega (arith, h.1) in absurd (true≢false (sym (all-at bs e h.0 lt) ∙ at false h.0 lt h.2)))
    (λ e. sym e) (either (all_true bs))

-- ---- Numbers

all-answers : (bs : List Bool) (n : ℕ) → length bs ≡ n → {F : Type 0} {g : Mut F (ℕ × Unit {0}) Bool} (f : F) (u : Range ℕ) (r : Bool) (said : ℕ → Bool)
    → ChecksAll nat_range_steps g (record { start = 0; end = n }) f r u
    → ((i : ℕ) (b : Bool) (q : F) → Called g f (i, tt) b q → (q ≡ f) × (b ≡ said i))
    → ((i : ℕ) → i < n → get_or bs i false ≡ said i)
    → r ≡ all_true bs
all-answers bs n long f u r said ran each same =
    decided bs (range_with_len 0 n) (λ b i. said i ≡ b) (length-range_with_len 0 n ∙ sym long)
    (λ b i lt h.
    let lt' : i < n = omega arith in
    same i lt' ∙ ap said (sym (get_or-range_with_len 0 n i 0 lt' ∙ zero-add i)) ∙ h 0)
    r
    (cases_from_all u f r (λ i. said i ≡ true) (λ i. said i ≡ false) ran (YieldsList-from_range 0 n n refl (sub-zero n))
    (λ i q c. let h = each i true q c in (h.0, sym h.1))
    (λ i q c. sym (each i false q c).1))

-- the code answers `test` of each number
pub every-number : (test : ℕ → Bool) (n : ℕ) {F : Type 0} {g : Mut F (ℕ × Unit {0}) Bool} (f : F) (u : Range ℕ) (r : Bool)
    → ChecksAll nat_range_steps g (record { start = 0; end = n }) f r u
    → ((i : ℕ) (b : Bool) (q : F) → Called g f (i, tt) b q → (q ≡ f) × (b ≡ test i))
    → r ≡ every (λ i k. test k) (numbers_from 0 n)
every-number test n f u r ran each =
    let numbers = numbers_from 0 n in
    all-answers (map_with_index (λ i k. test k) numbers) n (length-mapped (λ i k. test k) numbers ∙ length-range 0 n) f u r test ran each
    (λ i lt. at-mapped (λ i k. test k) numbers i 0 false (omega (arith, length-range 0 n)) ∙ ap test (at-range 0 n i 0 lt ∙ zero-add i))

-- ---- The items of a slice

-- the code answers `said` of each item
pub every-item : {A : Type 0} (test : ℕ → A → Bool) (xs : List A) (said : A → Bool) {F : Type 0} {g : Mut F (Bor A × Unit {0}) Bool} (f : F) (s u : Iter A) (r : Bool)
    → ChecksAll fronts g s f r u
    → iter_rest s ≡ xs
    → ((x : Bor A) (b : Bool) (q : F) → Called g f (x, tt) b q → (q ≡ f) × (b ≡ said x.now))
    → ((i : ℕ) (d : A) → i < length xs → said (get_or xs i d) ≡ test i (get_or xs i d))
    → (d : A) → r ≡ every test xs
every-item test xs said f s u r ran rest each same d =
    decided (map_with_index test xs) xs (λ b x. said x ≡ b) (sym (length-mapped test xs))
    (λ b i lt h.
    let lt' : i < length xs = omega (arith, length-mapped test xs) in
    at-mapped test xs i d false lt' ∙ sym (same i d lt') ∙ h d)
    r
    (cases_from_all u f r (λ x. said x ≡ true) (λ x. said x ≡ false) ran (YieldsList-from_slice xs rest)
    (λ x q c. let h = each x true q c in (h.0, sym h.1))
    (λ x q c. sym (each x false q c).1))

-- ---- Chunks of the bytes of a table

module _ (n : ℕ) (some : 0 < n) where
  chunks : (k : ℕ) (t : List ℕ) (s : _) → length t ≡ k * n → chunks_exact_rest s ≡ t → chunks_exact_size s ≡ n
      → AlwaysYields (chunks_exact_steps {A = ℕ}) (λ y. y.now) s (records k n t)
  unfolding records
  chunks zero t s long rest size = λ x u p. absurd (omega (arith, zero-mul n, ap length (sym rest ∙ p.1.0), length-append x.now (chunks_exact_rest u), p.1.1))
  chunks (suc k) t s long rest size =
      let whole : length t ≡ k * n + n = long ∙ suc-mul k n in (
        (λ u p. absurd (omega (arith, p.1.0, ap length rest))),
        λ x u p.
            let cut : t ≡ x.now ++ chunks_exact_rest u = sym rest ∙ p.1.0 in
            let long' : length x.now ≡ n = p.1.1 ∙ size in (
              sym (ap (take n) cut ∙ take_at x.now (chunks_exact_rest u) n long'),
              chunks k (drop n t) u (omega (arith, length-drop n t)) (sym (ap (drop n) cut ∙ drop_at x.now (chunks_exact_rest u) n long')) (p.0 ∙ size),
            ),
      )

module _ (k n : ℕ) (t : List ℕ) where
  -- each record with its number
  abbrev pub numbered : List (ℕ × List ℕ)
  numbered = enumerate_from 0 (records k n t)

  count-numbered : length numbered ≡ k
  count-numbered = length-enumerate_from 0 (records k n t) ∙ length-records k n t

  at-numbered : (i : ℕ) → i < k → get_or numbered i (0, []) ≡ (i, slice (i * n) n t)
  at-numbered i h =
      get_or-enumerate_from 0 (records k n t) i (0, []) (omega (arith, length-records k n t))
      ∙ (λ j. (zero-add i j, at_records k n t i h j))

  pub yields-records : 0 < n → length t ≡ k * n → (s : Enumerate _) → chunks_exact_rest (enumerate_source s) ≡ t → chunks_exact_size (enumerate_source s) ≡ n → enumerate_count s ≡ 0
      → YieldsList (enumerate_steps (chunks_exact_steps {A = ℕ})) (λ p. (p.0, p.1.now)) s numbered
  yields-records some long s rest size count =
      YieldsList-from_enumerate {steps = chunks_exact_steps {A = ℕ}} (record { runs = chunks n some k t (enumerate_source s) long rest size }) count

  pub record-of : length t ≡ k * n → (x : ℕ × List ℕ) (i : ℕ) → i < length numbered → x ≡ get_or numbered i x → (x.0 < k) × (length x.1 ≡ n)
  record-of long x i h e =
      let lt : i < k = omega (arith, count-numbered) in
      let at : x ≡ (i, slice (i * n) n t) = e ∙ get_or_default numbered i x (0, []) h ∙ at-numbered i lt in
      (omega (arith, ap (λ (p : ℕ × List ℕ). p.0) at), ap (λ (p : ℕ × List ℕ). length p.1) at ∙ length-slice (i * n) n t (omega (arith, long, before n i k lt)))

-- ---- The records of a table

module _ {A : Type 0} (test : ℕ → A → Bool) (read : List ℕ → A) (k n : ℕ) (t : List ℕ) (d : A) where
  abbrev xs : List A
  xs = map read (records k n t)

  tested : length (map_with_index test xs) ≡ k
  tested = length-mapped test xs ∙ length-decoded read k n t

  at-tested : (i : ℕ) → i < k → get_or (map_with_index test xs) i false ≡ test i (read (slice (i * n) n t))
  at-tested i lt = at-mapped test xs i d false (omega (arith, length-decoded read k n t)) ∙ ap (test i) (at_table read k n t i lt d)

  -- where every record passes, one does
  pub passes-at : every test xs ≡ true → (i : ℕ) → i < k → test i (read (slice (i * n) n t)) ≡ true
  passes-at e i lt = sym (at-tested i lt) ∙ all-at (map_with_index test xs) e i (omega (arith, tested))

  -- read by its number
  pub every-record : {F : Type 0} {g : Mut F (ℕ × Unit {0}) Bool} (f : F) (u : Range ℕ) (r : Bool)
      → ChecksAll nat_range_steps g (record { start = 0; end = k }) f r u
      → ((i : ℕ) (b : Bool) (q : F) → Called g f (i, tt) b q → (q ≡ f) × (b ≡ test i (read (slice (i * n) n t))))
      → r ≡ every test xs
  every-record f u r ran each = all-answers (map_with_index test xs) k tested f u r (λ i. test i (read (slice (i * n) n t))) ran each at-tested

  -- lent as a chunk
  pub every-chunk : {F : Type 0} {g : Mut F ((ℕ × Bor (List ℕ)) × Unit {0}) Bool} (f : F) (s u : Enumerate _) (r : Bool)
      → ChecksAll (enumerate_steps (chunks_exact_steps {A = ℕ})) g s f r u
      → YieldsList (enumerate_steps (chunks_exact_steps {A = ℕ})) (λ p. (p.0, p.1.now)) s (numbered k n t)
      → ((x : ℕ × Bor (List ℕ)) (b : Bool) (q : F) → Called g f (x, tt) b q → (q ≡ f) × (b ≡ test x.0 (read x.1.now)))
      → r ≡ every test xs
  every-chunk f s u r ran road each =
      decided (map_with_index test xs) (numbered k n t) (λ b p. test p.0 (read p.1) ≡ b) (count-numbered k n t ∙ sym tested)
      (λ b i lt h.
      let lt' : i < k = omega (arith, tested) in
      at-tested i lt' ∙ ap (λ (p : ℕ × List ℕ). test p.0 (read p.1)) (sym (at-numbered k n t i lt')) ∙ h (0, []))
      r
      (cases_from_all u f r (λ p. test p.0 (read p.1) ≡ true) (λ p. test p.0 (read p.1) ≡ false) ran road
      (λ x q c. let h = each x true q c in (h.0, sym h.1))
      (λ x q c. sym (each x false q c).1))
