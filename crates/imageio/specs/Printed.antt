-- Document 02, [2] "Image compare": what the program prints.
use Rattle.std.specs.Prelude.{ℕ, ◌+◌, ◌/◌, ◌%◌, List, [], ◌∷◌, ◌++◌, map, take, eqb, ltb, if◌then◌else◌}
use mathlib.Core.List.{flatten}
use Rattle.records.specs.Status.{SUCCESSFUL}
use Rattle.specification.specs.Answer.{Outcome}
use Rattle.differences.specs.Differences.{compared, blanks}
use Rattle.differences.specs.declared.difference.Difference.{Difference}

-- ---- ASCII

abbrev pub newline : ℕ
newline = 10

abbrev pub space : ℕ
space = 32

-- the character of a digit, 0 to 9
unfoldable pub digit : ℕ → ℕ
digit d = 48 + d

-- a byte, or any other number below 1,000, in decimal, with no zero in front of it
unfoldable pub decimal : ℕ → List ℕ
decimal n =
    if ltb n 10 then digit n ∷ []
    else (if ltb n 100 then digit (n / 10) ∷ digit (n % 10) ∷ []
    else digit (n / 100) ∷ digit (n / 10 % 10) ∷ digit (n % 10) ∷ [])

-- ---- Lines

-- a number and the byte behind it
unfoldable pub number_then : (n behind : ℕ) → List ℕ
number_then n behind = decimal n ++ behind ∷ []

-- "one entry a line, its four numbers in decimal with single spaces between"
unfoldable pub line : Difference → List ℕ
line d =
    number_then d.table space ++ number_then d.number space ++ number_then d.place space ++ number_then d.count newline

-- the lines of a list
abbrev pub lines_of : List Difference → List ℕ
lines_of ds = flatten (map line ds)

-- ---- The program

-- "prints the list", as far as the value says, "or 16 alone"
unfoldable pub printed : Outcome (List Difference) → List ℕ
printed o =
    if eqb o.answer.status SUCCESSFUL then lines_of (take o.answer.value o.after) else number_then o.answer.status newline

-- What is printed of two files with these bytes, compared into a list with room for all that can differ. "also where it can't read both": a
-- file that can't be read has no bytes.
unfoldable pub printed_of : (one two : List ℕ) → List ℕ
printed_of one two = printed (compared one two blanks)
