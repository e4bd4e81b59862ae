-- `soundness::queues::limit_in` meets its contract. Assumes nothing.
use mathlib.Core.Path.{◌≡◌, sym, ap, subst, ◌∙◌}
use mathlib.Core.Bool.{true}
use native.Mathlib.Omega.{arith}
use Prim.Native.Nat.{◌<◌}
use borrow.Author.Rules.{rules}
use Rattle.octets.specs.LittleEndian.{byte_values}
use Rattle.records.specs.Records.{Queue}
use Rattle.records.specs.Bytes.{decode_queue_at}
use Rattle.specification.specs.Sound.{sound_queue, limit_in}
use Rattle.soundness.proofs.Cases.{limit-foreign, limit-own}
use Rattle.soundness.proofs.queues.limit_in.Goals as goal

pub returns-then-share_of_slot-share : goal.returns-then-share_of_slot-share
returns-then-share_of_slot-share c =
    let a = c.args in
    (limit-foreign (decode_queue_at a.slot a.queues.now) a.share a.slot (λ e. c.if-share_of_slot-share.true (c.share_of_slot.ensures ∙ e)), omega arith)

pub returns : goal.returns
returns c =
    let a = c.args in (
      c.from.ensures
          ∙ limit-own c.read_queue.result a.share a.slot (sym c.share_of_slot.ensures ∙ c.if-share_of_slot-share.false) (subst (λ (q : Queue). sound_queue q ≡ true) (sym c.read_queue.ensures) c.requires.1.1)
          ∙ ap (limit_in a.share a.slot) c.read_queue.ensures,
      let small : c.read_queue.result.limit < byte_values = search rules in omega arith,
    )
