-- Document 02, [2]: lines written out, and what is printed of outcomes.
use Rattle.std.specs.Prelude.{◌≡◌, [], ◌∷◌}
use Rattle.records.specs.Status.{SUCCESSFUL, BAD-SHAPE}
use Rattle.specification.specs.Answer.{outcome}
use Rattle.imageio.specs.Printed.{line, printed}
use Rattle.differences.specs.DifferenceCases.{difference}

pub record LinesHold : Type 0 where
  -- "2 7 16 3" and a line's end
  pub task : line (difference 2 7 16 3) ≡ 50 ∷ 32 ∷ 55 ∷ 32 ∷ 49 ∷ 54 ∷ 32 ∷ 51 ∷ 10 ∷ []
  -- "1 63 0 128", "2 31 135 136"
  pub buffer : line (difference 1 63 0 128) ≡ 49 ∷ 32 ∷ 54 ∷ 51 ∷ 32 ∷ 48 ∷ 32 ∷ 49 ∷ 50 ∷ 56 ∷ 10 ∷ []
  pub last-task : line (difference 2 31 135 136) ≡ 50 ∷ 32 ∷ 51 ∷ 49 ∷ 32 ∷ 49 ∷ 51 ∷ 53 ∷ 32 ∷ 49 ∷ 51 ∷ 54 ∷ 10 ∷ []
  -- "one entry a line": "0 9 10 1", then "2 0 99 100"; the entry past the value is not printed
  pub two-lines : printed (outcome SUCCESSFUL 2 0 (difference 0 9 10 1 ∷ difference 2 0 99 100 ∷ difference 1 1 1 1 ∷ []))
      ≡ 48 ∷ 32 ∷ 57 ∷ 32 ∷ 49 ∷ 48 ∷ 32 ∷ 49 ∷ 10 ∷ 50 ∷ 32 ∷ 48 ∷ 32 ∷ 57 ∷ 57 ∷ 32 ∷ 49 ∷ 48 ∷ 48 ∷ 10 ∷ []
  -- of equal images nothing
  pub no_line : printed (outcome SUCCESSFUL 0 0 (difference 1 1 1 1 ∷ [])) ≡ []
  -- "16 alone"
  pub sixteen : printed (outcome BAD-SHAPE 0 0 (difference 1 1 1 1 ∷ [])) ≡ 49 ∷ 54 ∷ 10 ∷ []
