-- `differences::compare::store_differences` meets its contract. Assumes nothing.
use Rattle.std.proofs.Common.{arith}
use Rattle.differences.proofs.Storing.{none_stored, entry_stored, record_passed, stored_count, stored_list}
use Rattle.differences.proofs.compare.store_differences.Goals.{then-difference-gt0, else-difference-gt0}
use Rattle.differences.proofs.compare.store_differences.Goals as goal

pub loop-k-init : goal.loop-k-init
loop-k-init c = none_stored c.args.one.now c.args.two.now c.args.list.now

pub loop-k-preserved : goal.loop-k-preserved
loop-k-preserved c =
    let l = c.loop-k in
    elim c.if-difference-gt0.branch [
      | then-difference-gt0 w ↦
          rw (w.list-is, w.n-is) (entry_stored _ _ _ _ _ _ l.invariant _ c.loop-k-test.true c.difference_at-difference.ensures w.if-difference-gt0.true (omega (arith, l.invariant.within)))
      | else-difference-gt0 w ↦
          rw (w.list-is, w.n-is) (record_passed _ _ _ _ _ _ l.invariant _ c.loop-k-test.true c.difference_at-difference.ensures w.if-difference-gt0.false)
    ]

pub returns-clause-count : goal.returns-clause-count
returns-clause-count c = stored_count _ _ _ _ _ _ c.loop-k.invariant c.loop-k-test.false (omega (arith, c.loop-k.invariant.within))

pub returns-clause-stored : goal.returns-clause-stored
returns-clause-stored c = stored_list _ _ _ _ _ _ c.loop-k.invariant c.loop-k-test.false
