-- `coremsg::messages::clear_messages` meets its contract. Assumes nothing.
use native.Mathlib.Omega.{arith}
use mathlib.Core.Path.{ap, ◌∙◌}
use Rattle.records.specs.Records.{free_buffer}
use Rattle.records.specs.Bytes.{decode_pool}
use Rattle.specification.specs.Lookup.{without_messages}
use Rattle.threadq.proofs.InQueue.{none_in, changed-here, stays_here, all_in}
use Rattle.coremsg.proofs.messages.clear_messages.Goals.{then-belongs_to, else-belongs_to}
use Rattle.coremsg.proofs.messages.clear_messages.Goals as goal

pub loop-b-init : goal.loop-b-init
loop-b-init c = none_in free_buffer

pub loop-b-preserved : goal.loop-b-preserved
loop-b-preserved c =
    let v = c.loop-b in
    let tested = c.belongs_to.ensures in
    elim c.if-belongs_to.branch [
      | then-belongs_to w ↦ changed-here free_buffer v.invariant c.loop-b-test.true tested w.if-belongs_to.true c.if-belongs_to.auto.pool (ap decode_pool w.pool-is ∙ w.clear_buffer.ensures)
      | else-belongs_to w ↦ stays_here free_buffer v.invariant c.loop-b-test.true tested w.if-belongs_to.false w.pool-is
    ]

pub returns : goal.returns
unfolding without_messages
returns c = all_in free_buffer c.loop-b.invariant (omega arith)
