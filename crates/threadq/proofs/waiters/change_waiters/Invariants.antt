-- `threadq::waiters::change_waiters` meets its contract. Assumes nothing.
use mathlib.Core.Path.{◌≡◌}
use Prim.Native.Nat.{ℕ}
use Rattle.records.specs.Layout.{task_count, task_width}
use Rattle.records.specs.Records.{Task}
use Rattle.records.specs.Bytes.{decode_task, decode_tasks}
use Rattle.records.specs.Changes.{change_at}
use Rattle.threadq.proofs.InQueue.{ChangedIn}
use Rattle.threadq.proofs.waiters.change_waiters.Given as goal

abbrev pub invariant-loop-t : goal.invariant-loop-t
invariant-loop-t g l = (f : Task → Task) → ((w : _) (t : ℕ) (u : _) → goal.F-post g l.change w t tt u → decode_tasks u.now ≡ change_at t f (decode_tasks w.now))
    → ChangedIn decode_task (λ x. x.position) task_count task_width l.slot f l.initial.tasks l.tasks l.t
