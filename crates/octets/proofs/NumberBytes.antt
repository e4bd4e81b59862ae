-- Numbers as bytes, and parts of a list of bytes. Assumes nothing.
use Prim.Native.Nat.{ℕ, zero, suc, ◌+◌, ◌-◌, ◌*◌, ◌/◌, ◌^◌, ◌≤◌, ◌<◌}
use native.Mathlib.Nat.{pow-suc, mul_comm, mul_assoc, div-lt_iff_lt-mul}
use native.Mathlib.Omega.{arith}
use mathlib.Core.Path.{◌≡◌, refl, sym, ap, ◌∙◌, subst}
use mathlib.Core.List.{List, [], ◌∷◌, ◌++◌}
use lib.ListN.{length, take, drop, take-append-drop}
use lib.Seq.{drop-cons, drop-drop, take-add}
use Rattle.std.specs.Int.{w16, w32, w64, from_le_bytes}
use Rattle.ranks.specs.Table.{slice, byte}
use Rattle.ranks.proofs.Table.{length-slice}
use Rattle.octets.specs.LittleEndian.{byte_values, from_little_endian, to_little_endian}

-- ---- There and back

pub length-little-endian : (k n : ℕ) → length (to_little_endian k n) ≡ k
unfolding to_little_endian
length-little-endian zero n = refl
length-little-endian (suc k) n = ap suc (length-little-endian k (n / byte_values))

pub from-to-little-endian : (k n : ℕ) → n < byte_values ^ k → from_little_endian (to_little_endian k n) ≡ n
unfolding from_little_endian to_little_endian
from-to-little-endian zero n h = omega arith
from-to-little-endian (suc k) n h =
    let lt : n < byte_values ^ k * byte_values = subst (λ (m : ℕ). n < m) (pow-suc byte_values k) h in
    let ih : from_little_endian (to_little_endian k (n / byte_values)) ≡ n / byte_values = from-to-little-endian k (n / byte_values) ((div-lt_iff_lt-mul (omega arith)).1 lt) in
    omega arith

-- ---- Parts of a list

-- two parts side by side
pub slice-add : (i m n : ℕ) (r : List ℕ) → slice i (m + n) r ≡ slice i m r ++ slice (i + m) n r
unfolding slice
slice-add i m n r = take-add m n (drop i r) ∙ ap (λ (l : List ℕ). take m (drop i r) ++ take n l) (drop-drop m i r)

-- a part, and what stands behind it
pub part-and-rest : (i n : ℕ) (r : List ℕ) → drop i r ≡ slice i n r ++ drop (i + n) r
unfolding slice
part-and-rest i n r = sym (take-append-drop n (drop i r)) ∙ ap (λ (l : List ℕ). take n (drop i r) ++ l) (drop-drop n i r)

number_append : (xs ys : List ℕ) → from_little_endian (xs ++ ys) ≡ from_little_endian xs + byte_values ^ length xs * from_little_endian ys
unfolding from_little_endian
number_append [] ys = omega arith
number_append (x ∷ xs) ys =
    let e : byte_values ^ suc (length xs) * from_little_endian ys ≡ byte_values * (byte_values ^ length xs * from_little_endian ys)
    = ap (λ (n : ℕ). n * from_little_endian ys) (pow-suc byte_values (length xs) ∙ mul_comm (byte_values ^ length xs) byte_values) ∙ mul_assoc byte_values (byte_values ^ length xs) (from_little_endian ys) in
    omega (arith, number_append xs ys, e)

-- a number in two parts
pub number-add : (i m n : ℕ) (r : List ℕ) → i + m ≤ length r
    → from_little_endian (slice i m r) + byte_values ^ m * from_little_endian (slice (i + m) n r) ≡ from_little_endian (slice i (m + n) r)
number-add i m n r h =
    sym (ap from_little_endian (slice-add i m n r) ∙ number_append (slice i m r) (slice (i + m) n r)
    ∙ ap (λ (k : ℕ). from_little_endian (slice i m r) + byte_values ^ k * from_little_endian (slice (i + m) n r)) (length-slice i m r h))

-- ---- Numbers of two and four bytes

pub two : (r : List ℕ) (i : ℕ) → i + 2 ≤ length r → slice i 2 r ≡ byte i r ∷ byte (i + 1) r ∷ []
unfolding slice
two r i h =
    ap (take 2) (drop-cons r i 0 (omega arith) ∙ ap (λ (l : List ℕ). byte i r ∷ l) (drop-cons r (suc i) 0 (omega arith)))
    ∙ ap (λ (n : ℕ). byte i r ∷ byte n r ∷ []) (let e : suc i ≡ i + 1 = omega arith in e)

pub four : (r : List ℕ) (i : ℕ) → i + 4 ≤ length r → slice i 4 r ≡ byte i r ∷ byte (i + 1) r ∷ byte (i + 2) r ∷ byte (i + 3) r ∷ []
unfolding slice
four r i h =
    ap (take 4) (drop-cons r i 0 (omega arith)
    ∙ ap (λ (l : List ℕ). byte i r ∷ l) (drop-cons r (suc i) 0 (omega arith)
    ∙ ap (λ (l : List ℕ). byte (suc i) r ∷ l) (drop-cons r (suc (suc i)) 0 (omega arith)
    ∙ ap (λ (l : List ℕ). byte (suc (suc i)) r ∷ l) (drop-cons r (suc (suc (suc i))) 0 (omega arith)))))
    ∙ (λ k. byte i r ∷ byte ((let e : suc i ≡ i + 1 = omega arith in e) k) r ∷ byte ((let e : suc (suc i) ≡ i + 2 = omega arith in e) k) r
    ∷ byte ((let e : suc (suc (suc i)) ≡ i + 3 = omega arith in e) k) r ∷ [])

pub half-number : (r : List ℕ) (i : ℕ) → i + 2 ≤ length r → byte i r + byte_values * byte (i + 1) r ≡ from_little_endian (slice i 2 r)
unfolding from_little_endian
half-number r i h = rw (two r i h) (omega arith)

-- two, four and eight bytes one by one
pub all_two : (l : List ℕ) → length l ≡ 2 → l ≡ byte 0 l ∷ byte 1 l ∷ []
all_two [] e = absurd (omega arith)
all_two (a ∷ []) e = absurd (omega arith)
all_two (a ∷ b ∷ []) e = refl
all_two (a ∷ b ∷ c ∷ l) e = absurd (omega arith)

pub all-four : (l : List ℕ) → length l ≡ 4 → l ≡ byte 0 l ∷ byte 1 l ∷ byte 2 l ∷ byte 3 l ∷ []
all-four [] e = absurd (omega arith)
all-four (a ∷ []) e = absurd (omega arith)
all-four (a ∷ b ∷ []) e = absurd (omega arith)
all-four (a ∷ b ∷ c ∷ []) e = absurd (omega arith)
all-four (a ∷ b ∷ c ∷ d ∷ []) e = refl
all-four (a ∷ b ∷ c ∷ d ∷ f ∷ l) e = absurd (omega arith)

pub all-eight : (l : List ℕ) → length l ≡ 8
    → l ≡ byte 0 l ∷ byte 1 l ∷ byte 2 l ∷ byte 3 l ∷ byte 4 l ∷ byte 5 l ∷ byte 6 l ∷ byte 7 l ∷ []
all-eight (a ∷ b ∷ c ∷ d ∷ l) e =
    let rest : l ≡ byte 0 l ∷ byte 1 l ∷ byte 2 l ∷ byte 3 l ∷ [] = all-four l (omega arith) in
    ap (λ (m : List ℕ). a ∷ b ∷ c ∷ d ∷ m) rest
all-eight [] e = absurd (omega arith)
all-eight (a ∷ []) e = absurd (omega arith)
all-eight (a ∷ b ∷ []) e = absurd (omega arith)
all-eight (a ∷ b ∷ c ∷ []) e = absurd (omega arith)

-- a part lent, as the borrow checker says it
pub slice-lent : (t : List ℕ) (a n : ℕ) → take (a + n - a) (drop a t) ≡ slice a n t
unfolding slice
slice-lent t a n = ap (λ (k : ℕ). take k (drop a t)) (let e : a + n - a ≡ n = omega arith in e)

-- ---- The numbers that `from_le_bytes` reads

pub from-two : (bs : List ℕ) → length bs ≡ 2 → from_le_bytes w16 bs ≡ from_little_endian bs
unfolding from_little_endian
from-two bs e = rw (all_two bs e) (omega arith)

pub from-four : (bs : List ℕ) → length bs ≡ 4 → from_le_bytes w32 bs ≡ from_little_endian bs
unfolding from_little_endian
from-four bs e = rw (all-four bs e) (omega arith)

pub from-eight : (bs : List ℕ) → length bs ≡ 8 → from_le_bytes w64 bs ≡ from_little_endian bs
unfolding from_little_endian
from-eight bs e = rw (all-eight bs e) (omega arith)
