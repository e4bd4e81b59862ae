-- `coremsg::clears::hand_to_all` meets its contract. Assumes nothing.
use Rattle.std.proofs.Common.{rules}
use Rattle.records.specs.Bytes.{decode_pool, decode}
use Rattle.records.specs.Changes.{with_waiters}
use Rattle.specification.specs.Broadcast
use Rattle.objects.proofs.Written.{queue_changed}
use Rattle.coremsg.proofs.clears.hand_to_all.Goals as goal

pub returns : goal.returns
unfolding decode Broadcast.effect
returns c =
    let counted = queue_changed c.args.queues.now _ c.args.slot c.requires.0 (with_waiters 0) c.change_queue.ensures.0 (search rules) c.change_queue.ensures.2 in
    (c.waiters_mask-woken.ensures, λ pool i. record { queues = counted i; pool = decode_pool pool; tasks = c.deliver_to_all.ensures i })
