-- `coremsg::ticks::tick_task` meets its contract. Assumes nothing.
use native.Mathlib.Omega.{arith}
use mathlib.Core.Path.{refl, sym, ap₂, ◌∙◌}
use Prim.Native.Nat.{ℕ}
use mathlib.Core.List.{List}
use Rattle.records.specs.Bytes.{tables, decode}
use Rattle.coremsg.proofs.OneTick.{timed-out, counted-down, still}
use Rattle.coremsg.proofs.ticks.tick_task.Goals.{then-expires, else-expires+then-is_timed, else-expires+else-is_timed}
use Rattle.coremsg.proofs.ticks.tick_task.Goals as goal

pub returns : goal.returns
returns c =
    let a = c.args in
    let h = c.read_head-h in (
      refl,
      λ pool.
          let left = λ (q w : List ℕ). decode (tables q pool w) in
          elim c.if-expires.branch [
            | then-expires w ↦ ap₂ left w.queues-is w.tasks-is ∙ timed-out a.queues.now pool a.tasks.now a.t c.requires.task_below h.result h.ensures _ _ (sym c.expires.ensures ∙ w.if-expires.true) (omega arith) (w.leave.ensures pool)
            | else-expires+then-is_timed w ↦ ap₂ left w.queues-is w.tasks-is ∙ counted-down a.queues.now pool a.tasks.now a.t c.requires.task_below h.result h.ensures (sym c.expires.ensures ∙ w.if-expires.false) (sym w.is_timed.ensures ∙ w.if-is_timed.true) _ _ w.with_ticks.ensures w.write_head.ensures
            | else-expires+else-is_timed w ↦ ap₂ left w.queues-is w.tasks-is ∙ still a.queues.now pool a.tasks.now a.t c.requires.task_below h.result h.ensures (sym c.expires.ensures ∙ w.if-expires.false) (sym w.is_timed.ensures ∙ w.if-is_timed.false)
          ],
    )
