-- `records::task::deliver` meets its contract. Assumes nothing.
use Rattle.records.specs.Changes.{with_message}
use Rattle.records.specs.Layout.{task_count, task_width}
use Rattle.records.specs.Records.{fresh_task}
use Rattle.records.specs.Bytes.{decode_task}
use Rattle.records.proofs.Writing
use Rattle.records.proofs.task.deliver.Goals as goal

pub returns : goal.returns
returns c =
    let a = c.args in
    let k = c.deliver_to in
    Writing.record-lent decode_task task_count task_width (fresh_task 1) a.tasks.now k.new.r a.t (with_message a.message.now) c.requires.0 c.requires.1.0
    k.auto.r k.ensures
