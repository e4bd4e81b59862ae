-- `records::queue::write_queue` meets its contract. Assumes nothing.
use mathlib.Core.Path.{ap, ◌∙◌}
use Prim.Native.Nat.{◌*◌}
use Rattle.ranks.specs.Table.{spliced}
use Rattle.records.specs.Layout.{slot_count, queue_width}
use Rattle.records.specs.Bytes.{decode_queue, encode_queue}
use Rattle.records.proofs.Writing
use Rattle.records.proofs.queue.write_queue.Goals as goal

pub returns : goal.returns
returns c =
    let a = c.args in
    let b = c.encode_queue.ensures in
    Writing.table-written decode_queue slot_count queue_width a.queues.now c.copy_into.new.t (encode_queue a.q) a.slot a.q c.requires.0 c.requires.1 b.1.1 b.1.0
    (c.copy_into.ensures ∙ ap (spliced a.queues.now (a.slot * queue_width)) b.0)
