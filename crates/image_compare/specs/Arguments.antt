-- Document 02, [2]: "A program prints the list for two files named as its arguments, […] or 16 alone, also where it can't read both."
-- What an argument is no contract can say, or that the system was asked for it: `Argument` holds of any path. It names the number of the
-- argument, so that the definition below says which belongs to which file. That `argument` asks for it is read in its body, a line, and
-- shown by runs.
use Rattle.std.specs.Prelude.{ℕ, ◌≡◌, List, [], Result}
use Rattle.std.specs.declared.io.Error.{Error}
use Rattle.streams.specs.Writing.{standard_output, Writes}
use Rattle.imageio.specs.Printed.{printed_of}
use Rattle.imageio.specs.Files.{PrintsFiles}

-- The system's argument `i` is `path`, which is empty where the argument is longer than any path. Nothing follows from it.
pub data Argument (i : ℕ) (path : List ℕ) : Type 0 where
  asked : Argument i path

-- the program's own name and two paths
abbrev pub argument_count : ℕ
argument_count = 3

-- With two arguments what is printed is of the files that they name. Document 02 does not say what another number of them gives: what is
-- printed is of two files with no bytes.
pub data PrintsArguments (count : ℕ) (done : Result (Unit {0}) Error) : Type 0 where
  files : {one two : List ℕ} → count ≡ argument_count → Argument 1 one → Argument 2 two → PrintsFiles one two done → PrintsArguments count done
  not-two : (count ≡ argument_count → ⊥) → Writes standard_output (printed_of [] []) done → PrintsArguments count done
