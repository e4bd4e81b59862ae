-- `coremsg::steps::wait_in` meets its contract. Assumes nothing.
use Prim.Native.Nat.{suc}
use native.Mathlib.Numerals.{add-one}
use mathlib.Core.Path.{refl}
use Rattle.std.proofs.Common.{rules}
use Rattle.records.specs.Changes.{with_waiters}
use Rattle.objects.proofs.Written.{queue_changed}
use Rattle.records.specs.Bytes.{tables, decode}
use Rattle.specification.specs.Receive.{waiting}
use Rattle.coremsg.proofs.Changed.{state-is}
use Rattle.coremsg.proofs.Moves.{rank_is}
use Rattle.coremsg.proofs.steps.wait_in.Goals as goal

pub returns : goal.returns
unfolding waiting decode
returns c =
    let a = c.args in
    let rank = c.wait_rank-rank.result in
    let counted = queue_changed a.queues.now _ a.slot c.requires.0.slot_below (λ q. with_waiters (suc q.waiters) q) c.change_queue.ensures.0 (search (rules, add-one)) c.change_queue.ensures.2 in
    λ pool. (
      rank_is a.queues.now pool a.tasks.now a.caller a.slot c.requires.0.task_below c.requires.0.slot_below c.read_queue-q.result c.read_queue-q.ensures rank c.wait_rank-rank.ensures,
      state-is _ pool _ (waiting (decode (tables a.queues.now pool a.tasks.now)) a.caller a.slot rank a.ticks).after counted refl c.enter.ensures,
    )
