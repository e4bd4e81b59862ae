-- `replay_cases::case::change`. What is left to be written decides. Assumes nothing.
use Rattle.std.proofs.Common.{◌≡◌, length}
use Rattle.replay_cases.specs.StoredCase.{changed}
use Rattle.replay_cases.proofs.case.change.Given as goal

abbrev pub invariant-loop-rest : goal.invariant-loop-rest
invariant-loop-rest l = (changed l.image l.rest ≡ changed l.initial.image l.fn.changes) × (length l.image ≡ length l.initial.image)

abbrev pub decreases-loop-rest : goal.decreases-loop-rest
decreases-loop-rest l = length l.rest
