-- `runs::replay::replay_all` meets its contract. Assumes nothing.
use Prim.Native.Nat.{ℕ}
use mathlib.Core.Path.{◌≡◌}
use mathlib.Core.List.{List}
use Rattle.std.specs.Prelude.{Result}
use Rattle.records.specs.Bytes.{tables}
use Rattle.records.specs.declared.status.RefusalStatus.{RefusalStatus}
use Rattle.common_refusals.specs.Tested.{Tested}
use Rattle.records.proofs.ByteLists.{Slice}
use Rattle.runs.proofs.Replays.{ReplayedTo}
use Rattle.runs.proofs.replay.replay_all.Given as goal

-- The log is replayed up to `at`, and the tests of the tables still give the verdict.
pub record Replaying (queues₀ pool₀ tasks₀ log lent : List ℕ) (verdict : Result Unit RefusalStatus) (queues pool tasks answers : List ℕ) (at to : ℕ) : Type 0 where
  pub tested : Tested (tables queues pool tasks) verdict
  pub queue-bytes : Slice queues
  pub pool-bytes : Slice pool
  pub task-bytes : Slice tasks
  pub done : ReplayedTo (tables queues₀ pool₀ tasks₀) log lent (tables queues pool tasks) answers at to

abbrev pub invariant-loop-found : goal.invariant-loop-found
invariant-loop-found l =
    (l.found-iterator.log.now ≡ l.log) × Replaying l.initial.queues l.initial.pool l.initial.tasks l.log l.initial.answers l.verdict l.queues l.pool l.tasks l.answers l.found-iterator.at l.written
