-- Document 01, "Tables": "little-endian". Numbers as bytes, the lowest first.
use Rattle.std.specs.Prelude.{ℕ, zero, suc, ◌+◌, ◌*◌, ◌/◌, ◌%◌, List, [], ◌∷◌}

-- how many values a byte has
abbrev pub byte_values : ℕ
byte_values = 256

-- the number whose bytes these are, the lowest first
unfoldable pub from_little_endian : List ℕ → ℕ
from_little_endian [] = 0
from_little_endian (b ∷ bs) = b + byte_values * from_little_endian bs

-- the lowest `k` bytes of a number, the lowest first
unfoldable pub to_little_endian : (k : ℕ) → ℕ → List ℕ
to_little_endian zero n = []
to_little_endian (suc k) n = n % byte_values ∷ to_little_endian k (n / byte_values)
