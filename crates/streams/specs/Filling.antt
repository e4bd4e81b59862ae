-- A buffer filled by reads.
-- Exact is that the bytes already in the buffer stay; `Fills` says when reads with such answers go on, and what they come to. No contract can
-- say which bytes the system hands over, which answer it gives, or that it was asked at all: code that made an answer up would meet
-- `ReadBehind` and `Fills` too. That `read_behind` asks the system, with that descriptor and for bytes behind the first `n`, is read in its
-- body, two lines, and shown by runs.
use Rattle.std.specs.Prelude.{IsUtf8, ℕ, ◌+◌, ◌-◌, ◌<◌, ◌≤◌, ◌≡◌, List, length, take, ℤ, pos, negsuc, Option, Some, None, Result, Ok, Err, IsErr, IfOk}
use Rattle.std.specs.Result.{result_unwrap_or}
use Rattle.std.specs.declared.fs.File.{File}
use Rattle.std.specs.declared.io.Error.{Error}
use Rattle.streams.specs.declared.reading.Input.{Input}

abbrev pub standard_input : Input
standard_input = record { fd = pos 0 }

-- The descriptor of what is read, by its number. For one that has no known number stands -1, which no file has.
abbrev pub input_of : Option ℤ → Input
input_of (Some fd) = record { fd = fd }
input_of None = record { fd = negsuc 0 }

-- What opening the file at a path comes to. No contract can say which file the system opens; a path that is not UTF-8 text is none that can be.
abbrev pub OpenedAt : (path : List ℕ) → Result File Error → Type 0
OpenedAt path file = (IsUtf8 path → ⊥) → IsErr file

-- what a read that is handed `n` bytes may answer: that it failed, or how many bytes it moved, at most `n`
abbrev pub Moved : ℕ → Result ℕ Error → Type 0
Moved n got = IfOk got (λ k. k ≤ n)

-- `got` is an answer that the system may give to a read behind the first `n` bytes of a buffer, and the bytes already there stay.
-- `from` names the descriptor; nothing follows from it.
pub record ReadBehind (from : Input) (n : ℕ) (old : List ℕ) (got : Result ℕ Error) (new : List ℕ) : Type 0 where
  pub moved : Moved (length old - n) got
  pub kept : take n new ≡ take n old
  pub size : length new ≡ length old

-- Reads from a descriptor behind the first `n` bytes of the buffer `old`, which leave `new`, come to `f`: they go on until the buffer is
-- full, the input has ended, which an answer of 0 says, or one has failed. `f` is how many bytes of the buffer were read, or that failure.
pub data Fills (from : Input) (f : Result ℕ Error) (new : List ℕ) : (n : ℕ) (old : List ℕ) → Type 0 where
  full : {n : ℕ} → n ≡ length new → f ≡ Ok n → Fills from f new n new
  ended : {n : ℕ} {old : List ℕ} → ReadBehind from n old (Ok 0) new → f ≡ Ok n → Fills from f new n old
  failed : {n : ℕ} {old : List ℕ} {e : Error} → ReadBehind from n old (Err e) new → f ≡ Err e → Fills from f new n old
  more : {n k : ℕ} {old next : List ℕ} → ReadBehind from n old (Ok k) next → 0 < k → Fills from f new (n + k) next → Fills from f new n old

-- how many bytes of a buffer were read: after a failure nothing counts
abbrev pub bytes_read : Result ℕ Error → ℕ
bytes_read f = result_unwrap_or f 0
