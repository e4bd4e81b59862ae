-- `fresh_tables::make::make_tasks` meets its contract. Assumes nothing.
use Prim.Native.Nat.{◌-◌}
use lib.ListN.{get_or}
use Rattle.records.specs.Layout.{task_count, task_width}
use Rattle.records.specs.Records.{fresh_task}
use Rattle.records.specs.Bytes.{decode_task}
use Rattle.records.proofs.InTurn.{ChangedUpTo}
use Rattle.fresh_tables.proofs.make.make_tasks.Given as goal

abbrev pub invariant-loop-t : goal.invariant-loop-t
invariant-loop-t l =
    ChangedUpTo decode_task task_count task_width (λ k w. fresh_task (get_or l.priorities k 0)) l.initial.tasks l.tasks l.t

abbrev pub decreases-loop-t : goal.decreases-loop-t
decreases-loop-t l =
    task_count - l.t
