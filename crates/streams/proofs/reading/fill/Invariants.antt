-- `streams::reading::fill`: what the reads to come leave is what all of them leave. Assumes nothing.
use Rattle.std.proofs.Common.{length, ◌-◌, ◌≡◌, ◌≤◌, Result, ℕ, List}
use Rattle.std.specs.declared.io.Error.{Error}
use Rattle.streams.specs.Filling.{Fills, input_of}
use Rattle.streams.proofs.reading.fill.Given as goal

abbrev pub invariant-loop-n : goal.invariant-loop-n
invariant-loop-n g l =
    (l.n ≤ length l.buffer)
    × (length l.buffer ≡ length l.initial.buffer)
    × ((f : Result ℕ Error) (new : List ℕ) → Fills (input_of (g.R.AsRawFd.raw_fd l.fn.from)) f new l.n l.buffer → Fills (input_of (g.R.AsRawFd.raw_fd l.fn.from)) f new 0 l.initial.buffer)

abbrev pub decreases-loop-n : goal.decreases-loop-n
decreases-loop-n g l = length l.initial.buffer - l.n
