-- `coremsg::clears::remove_messages` meets its contract. Assumes nothing.
use Rattle.std.proofs.Common.{rules}
use Rattle.records.specs.Bytes.{decode_tasks, decode}
use Rattle.records.specs.Changes.{with_pending}
use Rattle.specification.specs.Flush
use Rattle.objects.proofs.Written.{queue_changed}
use Rattle.coremsg.proofs.clears.remove_messages.Goals as goal

pub returns : goal.returns
unfolding decode Flush.effect
returns c =
    let counted = queue_changed c.args.queues.now _ c.args.slot c.requires.0 (with_pending 0) c.change_queue.ensures.0 (search rules) c.change_queue.ensures.2 in
    (search rules, λ tasks i. record { queues = counted i; pool = c.clear_messages.ensures i; tasks = decode_tasks tasks })
