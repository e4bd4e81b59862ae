-- `soundness::priorities::priorities_by_rank` meets its contract. Assumes nothing.
use Rattle.std.proofs.Common.{◌≡◌, length}
use Rattle.octets.specs.LittleEndian.{byte_values}
use Rattle.records.specs.Bytes.{decode_tasks}
use Rattle.soundness.specs.Parts.{PrioritiesAtRanks}
use Rattle.soundness.proofs.priorities.priorities_by_rank.Given as goal

abbrev pub invariant-loop-t : goal.invariant-loop-t
invariant-loop-t l = (length l.by_rank ≡ byte_values) × PrioritiesAtRanks l.slot l.t (decode_tasks l.tasks) l.by_rank
