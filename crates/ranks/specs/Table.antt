-- A table as bytes: records of the same number of bytes, with no header. Two bytes of a record, side by side, are its position.
use Rattle.std.specs.Prelude.{ℕ, zero, suc, ◌+◌, ◌*◌, ◌<◌, ◌≡◌, List, [], ◌∷◌, ◌++◌, length, take, drop, get_or, set}
use Rattle.ranks.specs.Position.{Position}

-- `n` bytes from place `i` on, and the byte at place `i`
unfoldable pub slice : ℕ → ℕ → List ℕ → List ℕ
slice i n bytes = take n (drop i bytes)

abbrev pub byte : ℕ → List ℕ → ℕ
byte i bytes = get_or bytes i 0

-- `k` records of `n` bytes
unfoldable pub records : ℕ → ℕ → List ℕ → List (List ℕ)
records zero n bytes = []
records (suc k) n bytes = take n bytes ∷ records k n (drop n bytes)

-- the position in the bytes from `i` on
abbrev pub position_in : ℕ → List ℕ → Position
position_in i bytes = record { queue = byte i bytes; rank = byte (i + 1) bytes }

-- the bytes with `new` written from place `i` on
unfoldable pub spliced : List ℕ → ℕ → List ℕ → List ℕ
spliced bytes i new = take i bytes ++ new ++ drop (i + length new) bytes

-- ---- For the code

-- the bytes with another position from `i` on
abbrev pub put_position : ℕ → Position → List ℕ → List ℕ
put_position i p bytes = set (set bytes i p.queue) (i + 1) p.rank

-- record `j` with its position, at `i`, changed by `f`
unfoldable pub moved : ℕ → (ℕ → Position → Position) → ℕ → List ℕ → List ℕ
moved i f j r = put_position i (f j (position_in i r)) r

-- a table of `count` records of `stride` bytes with the position at `place`, and `size` bytes in all
pub record Shape (stride place count size : ℕ) : Type 0 where
  pub inside : place + 1 < stride
  pub whole : size ≡ count * stride
