-- Bytes written to a descriptor, and messages.
-- Exact are that all is done where nobody asks for answers (`WritesAnswers`), and which bytes the messages name. No contract can say which
-- bytes go out, or that the system was asked at all: `Writes` and `Says` hold of any bytes, and code that wrote nothing would meet them too.
-- They name the descriptor and the bytes of a call, so that the definitions above them say which bytes belong to it. That `write` and
-- `say_failed` ask the system, with that descriptor and those bytes, is read in their bodies, a few lines each, and shown by runs.
use Rattle.std.specs.Prelude.{ℕ, ◌≡◌, Bool, true, false, List, [], ◌∷◌, pos, Result, Ok}
use Rattle.std.specs.declared.io.Error.{Error}
use Rattle.std.specs.declared.rt.Stdout.{Stdout}
use Rattle.streams.specs.declared.writing.Output.{Output}

abbrev pub standard_output : Output
standard_output = record { fd = pos 1 }

-- The descriptor of what is written, by its number. Nothing but standard output is written; that its number is 1 is what `descriptor` proves.
abbrev pub output_of : Stdout → Output
output_of s = standard_output

-- A write of all of `bytes`, which comes to `done`. Nothing follows from it.
pub data Writes (to : Output) (bytes : List ℕ) (done : Result (Unit {0}) Error) : Type 0 where
  asked : Writes to bytes done

-- Where answers are asked for, `done` tells of a write of them; where nobody asks, all is done.
pub data WritesAnswers (to : Output) (answering : Bool) (bytes : List ℕ) (done : Result (Unit {0}) Error) : Type 0 where
  wanted : answering ≡ true → Writes to bytes done → WritesAnswers to answering bytes done
  unwanted : answering ≡ false → done ≡ Ok tt → WritesAnswers to answering bytes done

-- what a message names: the bytes of "standard input", "standard output" and "length of the log"
unfoldable pub input_name : List ℕ
input_name = 115 ∷ 116 ∷ 97 ∷ 110 ∷ 100 ∷ 97 ∷ 114 ∷ 100 ∷ 32 ∷ 105 ∷ 110 ∷ 112 ∷ 117 ∷ 116 ∷ []

unfoldable pub output_name : List ℕ
output_name = 115 ∷ 116 ∷ 97 ∷ 110 ∷ 100 ∷ 97 ∷ 114 ∷ 100 ∷ 32 ∷ 111 ∷ 117 ∷ 116 ∷ 112 ∷ 117 ∷ 116 ∷ []

unfoldable pub length_name : List ℕ
length_name = 108 ∷ 101 ∷ 110 ∷ 103 ∷ 116 ∷ 104 ∷ 32 ∷ 111 ∷ 102 ∷ 32 ∷ 116 ∷ 104 ∷ 101 ∷ 32 ∷ 108 ∷ 111 ∷ 103 ∷ []

-- A message that names `what`. Nothing follows from it.
pub data Says (what : List ℕ) : Type 0 where
  said : Says what
