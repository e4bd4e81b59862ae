-- `soundness::priorities::priorities_by_rank` meets its contract. Assumes nothing.
use Rattle.std.proofs.Common.{rules, ◌<◌, length, sym, ap, arith, length-set, ◌∙◌}
use Rattle.octets.specs.LittleEndian.{byte_values}
use Rattle.soundness.proofs.Orders.{note-one, note-none}
use Rattle.soundness.proofs.priorities.priorities_by_rank.Goals.{then-from-slot, else-from-slot}
use Rattle.soundness.proofs.priorities.priorities_by_rank.Goals as goal

pub loop-t-preserved : goal.loop-t-preserved
loop-t-preserved c =
    let a = c.args in
    let v = c.loop-t in
    let h = c.read_head-h in
    elim c.if-from-slot.branch [
      | then-from-slot w ↦
          let small : h.result.rank < byte_values = search rules in (
            ap length w.by_rank-is ∙ simp length-set v.invariant.0,
            rw (w.by_rank-is, w.from-then-from-slot.ensures)
                (note-one a.tasks.now a.slot c.requires.1.1 v.t c.loop-t-test.true v.by_rank v.invariant.1 h.result h.ensures (sym c.from.ensures ∙ w.if-from-slot.true) (omega arith)),
          )
      | else-from-slot w ↦ (
        ap length w.by_rank-is ∙ v.invariant.0,
        rw w.by_rank-is (note-none a.tasks.now a.slot c.requires.1.1 v.t c.loop-t-test.true v.by_rank v.invariant.1 h.result h.ensures (λ e. w.if-from-slot.false (c.from.ensures ∙ e))),
      )
    ]
