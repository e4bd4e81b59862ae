-- `coremsg::steps::take_first` meets its contract. Assumes nothing.
use Prim.Native.Nat.{◌-◌}
use mathlib.Core.Path.{sym, ap, ◌∙◌}
use Rattle.ranks.specs.Lists.{map_with_index}
use Rattle.records.specs.Records.{Buffer, message_in}
use Rattle.records.specs.Bytes.{tables, decode_tasks, decode}
use Rattle.records.specs.Changes.{at_index, with_pending, with_message}
use Rattle.records.proofs.Access.{buffer-at}
use Rattle.specification.specs.Receive.{received}
use Rattle.std.proofs.Common.{rules}
use Rattle.objects.proofs.Written.{queue_changed}
use Rattle.coremsg.proofs.Changed.{state-is}
use Rattle.coremsg.proofs.steps.take_first.Goals as goal

pub returns : goal.returns
unfolding received decode
returns c =
    let a = c.args in
    let t = tables a.queues.now a.pool.now a.tasks.now in
    let counted = queue_changed a.queues.now _ a.slot c.requires.1.0.slot_below (λ q. with_pending (q.pending - 1) q) c.change_queue.ensures.0 (search rules) c.change_queue.ensures.2 in
    let here = sym (buffer-at t a.b c.requires.1.0.buffer_below) in (
      c.copy_message-n.ensures.0 ∙ ap (λ (m : Buffer). m.message_length) here,
      state-is _ _ _ (received (decode t) a.caller a.slot a.b).after counted c.take_out_message.ensures
          (c.copy_message-n.ensures.1 ∙ ap (λ (m : Buffer). map_with_index (at_index a.caller (with_message (message_in m))) (decode_tasks a.tasks.now)) here),
    )
