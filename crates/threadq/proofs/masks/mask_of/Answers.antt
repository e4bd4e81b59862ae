-- `threadq::masks::mask_of` meets its contract. Assumes nothing.
use native.Mathlib.Omega.{arith}
use Prim.Native.Nat.{ℕ, ◌+◌}
use mathlib.Core.Path.{◌≡◌, sym, subst, ◌∙◌}
use Rattle.records.specs.Layout.{task_count}
use Rattle.threadq.proofs.MaskFolds.{MaskedUpTo, none-masked, one-more-set, one-more-clear}
use Rattle.threadq.proofs.masks.mask_of.Goals.{then-test, else-test}
use Rattle.threadq.proofs.masks.mask_of.Goals as goal

pub loop-t-init : goal.loop-t-init
loop-t-init g c = none-masked _

pub loop-t-preserved : goal.loop-t-preserved
loop-t-preserved g c =
    let P = goal.F-post g c.args.test in
    elim c.if-test.branch [
      | then-test w ↦ subst (λ (m : ℕ). MaskedUpTo P m (c.loop-t.t + 1)) (sym w.mask-is) (one-more-set P c.loop-t.invariant (subst (P c.loop-t.t) w.if-test.true c.test.ensures) w.task_bit-mask.result w.task_bit-mask.ensures)
      | else-test w ↦ subst (λ (m : ℕ). MaskedUpTo P m (c.loop-t.t + 1)) (sym w.mask-is) (one-more-clear P c.loop-t.invariant (subst (P c.loop-t.t) w.if-test.false c.test.ensures))
    ]

pub returns : goal.returns
returns g c =
    let v = c.loop-t.invariant in
    let e : c.loop-t.t ≡ task_count = omega arith in
    (v.passes, v.size ∙ e, λ t h. v.each t (omega arith), v.is)
