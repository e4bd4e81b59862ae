-- `records::task::write_head` meets its contract. Assumes nothing.
use Rattle.records.specs.TaskHeads.{with_head}
use Rattle.records.specs.Layout.{task_count, task_width}
use Rattle.records.specs.Records.{fresh_task}
use Rattle.records.specs.Bytes.{decode_task}
use Rattle.records.proofs.Writing
use Rattle.records.proofs.task.write_head.Goals as goal

pub returns : goal.returns
returns c =
    let a = c.args in
    let k = c.encode_head in
    Writing.record-lent decode_task task_count task_width (fresh_task 1) a.tasks.now k.new.r a.t (with_head a.h) c.requires.1 c.requires.0
    k.auto.r k.ensures
