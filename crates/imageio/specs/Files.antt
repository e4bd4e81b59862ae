-- Files read, and what is printed of two.
-- Exact are how a buffer is filled by reads, and what is printed of the bytes that count. As for a log, no contract can say which bytes the
-- system hands over or takes, or that it was asked at all: `Opened` holds of any path. It names the path of a call, so that the definitions
-- above it say which file belongs to it. That `open_file` asks the system for that file is read in its body and in `open` of streams, a few
-- lines, and shown by runs.
use Rattle.std.specs.Prelude.{ℕ, ◌+◌, ◌≡◌, List, take, replicate, Some, Result, Ok, Err}
use Rattle.std.specs.Fd.{file_raw_fd}
use Rattle.std.specs.declared.fs.File.{File}
use Rattle.std.specs.declared.io.Error.{Error}
use Rattle.records.specs.Layout.{image_size}
use Rattle.streams.specs.Filling.{input_of, Fills, bytes_read}
use Rattle.streams.specs.Writing.{standard_output, Writes}
use Rattle.imageio.specs.Printed.{printed_of}

-- The system opened the file that `path` names, or could not. Nothing follows from it.
pub data Opened (path : List ℕ) (file : Result File Error) : Type 0 where
  asked : Opened path file

-- Reads from the file that `path` names fill the buffer `old` until it is full, the file has ended or one has failed: `f` is how many bytes
-- of `new` were read, or that failure. A file that could not be opened fills nothing.
pub data ReadsFile (path old : List ℕ) (f : Result ℕ Error) (new : List ℕ) : Type 0 where
  reads : (file : File) → Opened path (Ok file) → Fills (input_of (Some (file_raw_fd file))) f new 0 old → ReadsFile path old f new
  unopened : (e : Error) → Opened path (Err e) → f ≡ Err e → new ≡ old → ReadsFile path old f new

-- one byte more than an image has shows a file that is too long
abbrev pub file_room : ℕ
file_room = image_size + 1

-- a buffer for a file, before it is read
abbrev pub fresh_buffer : List ℕ
fresh_buffer = replicate file_room 0

-- The two files that the paths name are read, each into a buffer of its own, and what is printed is of what was read, which is nothing where
-- a file can't be read. `done` tells whether it was.
pub record PrintsFiles (first second : List ℕ) (done : Result (Unit {0}) Error) : Type 0 where
  pub one : List ℕ
  pub two : List ℕ
  pub f : Result ℕ Error
  pub g : Result ℕ Error
  pub reads-one : ReadsFile first fresh_buffer f one
  pub reads_two : ReadsFile second fresh_buffer g two
  pub writes : Writes standard_output (printed_of (take (bytes_read f) one) (take (bytes_read g) two)) done
