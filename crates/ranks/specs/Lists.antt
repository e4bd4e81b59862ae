-- Functions on lists. A table is a list of records; a test of a table is the list of what the test says of each record, in order.
use Rattle.std.specs.Prelude.{ℕ, zero, suc, ◌+◌, ◌*◌, ◌/◌, ◌%◌, min, Bool, true, false, ◌&&◌, List, [], ◌∷◌, eqb, leb, ltb, if◌then◌else◌, Option, Some, None}

-- `b` is not looked at where `a` is false
infixr 20 ◌implies◌
unfoldable pub ◌implies◌ : Bool → Bool → Bool
◌implies◌ a b = if a then b else true

-- `low` to `high`
unfoldable pub within : ℕ → ℕ → ℕ → Bool
within low high n = leb low n && leb n high

-- `f` of each record and its number; the first has number `i`
unfoldable pub map_from_index : {A B : Type 0} → ℕ → (ℕ → A → B) → List A → List B
map_from_index i f [] = []
map_from_index i f (x ∷ xs) = f i x ∷ map_from_index (suc i) f xs

-- `f` of each record and its number, counted from 0
unfoldable pub map_with_index : {A B : Type 0} → (ℕ → A → B) → List A → List B
map_with_index f xs = map_from_index 0 f xs

-- every test is passed
unfoldable pub all_true : List Bool → Bool
all_true [] = true
all_true (b ∷ bs) = elim b [ true ↦ all_true bs | false ↦ false ]

-- how many tests are passed
unfoldable pub count_true : List Bool → ℕ
count_true [] = 0
count_true (b ∷ bs) = elim b [ true ↦ suc (count_true bs) | false ↦ count_true bs ]

-- the number of the first test that is passed, or how many tests there are
unfoldable pub first_true : List Bool → ℕ
first_true [] = 0
first_true (b ∷ bs) = elim b [ true ↦ 0 | false ↦ suc (first_true bs) ]

-- every record passes
abbrev pub every : {A : Type 0} → (ℕ → A → Bool) → List A → Bool
every test xs = all_true (map_with_index test xs)

-- the number of the first record that passes, or how many records there are
abbrev pub find_index : {A : Type 0} → (ℕ → A → Bool) → List A → ℕ
find_index test xs = first_true (map_with_index test xs)

-- the index that a search found, none where it is the count
unfoldable pub found_below : (count i : ℕ) → Option ℕ
found_below count i = if ltb i count then Some i else None

-- the number whose bit t is set where test t is passed
unfoldable pub mask : List Bool → ℕ
mask [] = 0
mask (b ∷ bs) = elim b [ true ↦ 1 + 2 * mask bs | false ↦ 2 * mask bs ]

-- bit t of a number
unfoldable pub bit : ℕ → ℕ → ℕ
bit zero m = m % 2
bit (suc t) m = bit t (m / 2)

-- the entries that pass a test, in order
unfoldable pub keep_if : {A : Type 0} → (A → Bool) → List A → List A
keep_if test [] = []
keep_if test (x ∷ xs) = elim (test x) [ true ↦ x ∷ keep_if test xs | false ↦ keep_if test xs ]

unfoldable pub sum_of : List ℕ → ℕ
sum_of [] = 0
sum_of (n ∷ ns) = n + sum_of ns

-- the least of `n` and the numbers
unfoldable pub minimum : ℕ → List ℕ → ℕ
minimum n [] = n
minimum n (m ∷ ms) = min m (minimum n ms)

unfoldable pub all_zero : List ℕ → Bool
all_zero [] = true
all_zero (n ∷ ns) = elim (eqb n 0) [ true ↦ all_zero ns | false ↦ false ]

-- the numbers from `i` on, `n` of them
unfoldable pub numbers_from : ℕ → ℕ → List ℕ
numbers_from i zero = []
numbers_from i (suc n) = i ∷ numbers_from (suc i) n
