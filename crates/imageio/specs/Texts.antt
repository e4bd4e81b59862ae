-- For the code: the room for a text.
use Rattle.std.specs.Prelude.{ℕ, ◌+◌, ◌*◌}
use Rattle.records.specs.Layout.{image_record_count}

-- the most digits that a byte has, then a byte behind them, four times in a line
abbrev pub digits_room : ℕ
digits_room = 3

abbrev pub number_room : ℕ
number_room = digits_room + 1

abbrev pub line_room : ℕ
line_room = 4 * number_room

abbrev pub text_room : ℕ
text_room = line_room * image_record_count
