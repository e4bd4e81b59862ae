-- `coremsg::steps::put_into` meets its contract. Assumes nothing.
use Prim.Native.Nat.{suc}
use native.Mathlib.Numerals.{add-one}
use mathlib.Core.Path.{◌≡◌, refl, ap, ◌∙◌}
use Rattle.ranks.specs.Lists.{map_with_index}
use Rattle.ranks.specs.Position.{Position, position_at}
use Rattle.ranks.specs.Steps.{inserted}
use Rattle.records.specs.Bytes.{tables, decode_pool, decode}
use Rattle.records.specs.Changes.{at_index, with_pending, message_buffer}
use Rattle.specification.specs.Submit.{enqueued}
use Rattle.std.proofs.Common.{rules}
use Rattle.objects.proofs.Written.{queue_changed}
use Rattle.coremsg.proofs.Changed.{state-is, buffer_stepped}
use Rattle.coremsg.proofs.steps.put_into.Goals as goal

pub returns : goal.returns
unfolding enqueued decode
returns c =
    let a = c.args in
    let m = a.message.now in
    let at : c.position_at.result ≡ position_at a.slot a.rank = c.position_at.ensures ∙ ap (position_at a.slot) c.insert-at.ensures.1 in
    let counted = queue_changed a.queues.now _ a.slot c.requires.0.slot_below (λ q. with_pending (suc q.pending) q) c.change_queue.ensures.0 (search (rules, add-one)) c.change_queue.ensures.2 in
    λ tasks. state-is _ _ tasks (enqueued (decode (tables a.queues.now a.pool.now tasks)) a.b a.slot a.rank m).after counted
    (buffer_stepped (inserted a.b a.slot a.rank) a.b (λ _. message_buffer (position_at a.slot a.rank) m) (λ p x. refl) a.pool.now c.insert-at.new.t _ c.requires.0.pool_length c.insert-at.ensures.0
    (c.write_message.ensures ∙ ap (λ (p : Position). map_with_index (at_index a.b (λ _. message_buffer p m)) (decode_pool c.insert-at.new.t)) at)) refl
