-- `octets::zeros::zeros_from` meets its contract. Assumes nothing.
use native.Mathlib.Omega.{arith}
use Prim.Native.Nat.{◌+◌}
use mathlib.Core.Path.{sym, ◌∙◌}
use Rattle.octets.proofs.ZeroBytes.{zeros-more, zeros-stop, zeros-between, zeros-to-end}
use Rattle.octets.proofs.zeros.zeros_from.Goals.{else-loop-at-test, then-loop-at-test+else-not-zeros_at+else-last-at-gt32}
use Rattle.octets.proofs.zeros.zeros_from.Goals as goal

pub returns-then-not-zeros_at : goal.returns-then-not-zeros_at
returns-then-not-zeros_at c = sym (zeros-stop c.args.t.now c.loop-at.at 32 (sym c.zeros_at.ensures ∙ c.if-not-zeros_at.true)) ∙ c.loop-at.invariant

pub loop-at-preserved : goal.loop-at-preserved
loop-at-preserved c = zeros-more c.args.t.now c.loop-at.at 32 (sym c.zeros_at.ensures ∙ c.if-not-zeros_at.false) ∙ c.loop-at.invariant

pub returns : goal.returns
returns c =
    let t = c.args.t.now in
    let last = c.saturating_sub-last.result in
    c.zeros_at-2.ensures ∙ zeros-to-end t last 32 (omega arith)
    ∙ (elim c.loop-at-test.branch [
      | else-loop-at-test w ↦ zeros-between t c.args.from last c.loop-at.at (omega arith) (omega arith) c.loop-at.invariant
      | then-loop-at-test+else-not-zeros_at+else-last-at-gt32 w ↦ zeros-between t c.args.from last (c.loop-at.at + 32) (omega arith) (omega arith) (zeros-more t c.loop-at.at 32 (sym w.zeros_at.ensures ∙ w.if-not-zeros_at.false) ∙ c.loop-at.invariant)
    ])
