-- `records::task::deliver_to` meets its contract. Assumes nothing.
use Rattle.records.proofs.Writing
use Rattle.records.proofs.task.deliver_to.Goals as goal

pub returns : goal.returns
returns c =
    Writing.task-delivered c.args.r.now c.args.message.now c.requires.0 c.requires.1
    c.decode_head.ensures c.ready_with_message-h.ensures c.copy_into.ensures c.encode_head.ensures
