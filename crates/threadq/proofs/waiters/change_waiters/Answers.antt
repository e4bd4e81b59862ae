-- `threadq::waiters::change_waiters` meets its contract. Assumes nothing.
use native.Mathlib.Omega.{arith}
use mathlib.Core.Path.{ap, ◌∙◌}
use Rattle.records.specs.Records.{fresh_task}
use Rattle.records.specs.Bytes.{decode_tasks}
use Rattle.specification.specs.Lookup.{without_waiters}
use Rattle.threadq.proofs.InQueue.{none_in, changed-here, stays_here, all_in}
use Rattle.threadq.proofs.waiters.change_waiters.Goals.{then-waits_in, else-waits_in}
use Rattle.threadq.proofs.waiters.change_waiters.Goals as goal

pub loop-t-init : goal.loop-t-init
loop-t-init g c = λ f does. none_in (fresh_task 1)

pub loop-t-preserved : goal.loop-t-preserved
loop-t-preserved g c =
    let v = c.loop-t in
    let tested = c.waits_in.ensures in
    λ f does. elim c.if-waits_in.branch [
      | then-waits_in w ↦ changed-here (fresh_task 1) (v.invariant f does) c.loop-t-test.true tested w.if-waits_in.true c.if-waits_in.auto.tasks (ap decode_tasks w.tasks-is ∙ does _ _ _ w.change.ensures)
      | else-waits_in w ↦ stays_here (fresh_task 1) (v.invariant f does) c.loop-t-test.true tested w.if-waits_in.false w.tasks-is
    ]

pub returns : goal.returns
unfolding without_waiters
returns g c = λ f does. all_in (fresh_task 1) (c.loop-t.invariant f does) (omega arith)
