-- Document 02, [2]: whole images compared, and what is printed of them, written out.
use Rattle.std.specs.Prelude.{ℕ, ◌≡◌, List, [], ◌∷◌}
use Rattle.records.specs.Layout.{image_size}
use Rattle.records.specs.RecordCases.{zeros}
use Rattle.records.specs.Status.{SUCCESSFUL, BAD-SHAPE}
use Rattle.specification.specs.Answer.{outcome}
use Rattle.differences.specs.Differences.{compared}
use Rattle.imageio.specs.Printed.{printed_of}
use Rattle.differences.specs.DifferenceCases.{difference, untouched, changed_at}

-- an image of zeros, which is not sound, and one with other bytes in buffer 0 and in the last record
abbrev plain : List ℕ
plain = zeros image_size

abbrev other : List ℕ
other = changed_at (260 ∷ 262 ∷ 12799 ∷ []) plain

pub record ImagesHold : Type 0 where
  -- "One entry for each differing record, in image order; the answer is status 0 with their number as value, and entries past it stay as
  -- they were." "Unsound images are compared too."
  pub two_records : compared plain other (untouched 113) ≡ outcome SUCCESSFUL 2 0 (difference 1 0 4 2 ∷ difference 2 31 135 1 ∷ untouched 111)
  pub equal-images : compared plain plain (untouched 112) ≡ outcome SUCCESSFUL 0 0 (untouched 112)
  -- "Room for under 112 or a wrong length gives 16 and leaves the list untouched."
  pub room-for-111 : compared plain plain (untouched 111) ≡ outcome BAD-SHAPE 0 0 (untouched 111)
  pub first-too-short : compared (zeros 12799) plain (untouched 112) ≡ outcome BAD-SHAPE 0 0 (untouched 112)
  pub second-too-long : compared plain (zeros 12801) (untouched 112) ≡ outcome BAD-SHAPE 0 0 (untouched 112)
  -- "or 16 alone, also where it can't read both": the first file, the second, neither
  pub first-unread : printed_of [] plain ≡ 49 ∷ 54 ∷ 10 ∷ []
  pub second-unread : printed_of plain [] ≡ 49 ∷ 54 ∷ 10 ∷ []
  pub none_read : printed_of [] [] ≡ 49 ∷ 54 ∷ 10 ∷ []
