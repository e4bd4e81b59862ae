-- `coremsg::messages::clear_messages` meets its contract. Assumes nothing.
use Rattle.records.specs.Layout.{buffer_count, buffer_width}
use Rattle.records.specs.Records.{free_buffer}
use Rattle.records.specs.Bytes.{decode_buffer}
use Rattle.threadq.proofs.InQueue.{ChangedIn}
use Rattle.coremsg.proofs.messages.clear_messages.Given as goal

abbrev pub invariant-loop-b : goal.invariant-loop-b
invariant-loop-b l = ChangedIn decode_buffer (λ x. x.position) buffer_count buffer_width l.slot (λ _. free_buffer) l.initial.pool l.pool l.b
