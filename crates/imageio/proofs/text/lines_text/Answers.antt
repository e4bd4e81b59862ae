-- `imageio::text::lines_text`. Assumes nothing.
use Rattle.std.proofs.Common.{arith, ◌∙◌, refl}
use mathlib.Core.List.{flatten}
use Rattle.imageio.proofs.Lines.{next-line}
use Rattle.imageio.proofs.text.lines_text.Goals as goal

pub loop-d-init : goal.loop-d-init
unfolding flatten
loop-d-init c = rw c.new-text.ensures (refl, omega arith)

pub loop-d-preserved : goal.loop-d-preserved
loop-d-preserved c =
    let put = c.push_line.ensures in
    (put.written ∙ next-line c.args.list.now c.loop-d.d-index _ _ c.loop-d.invariant.0 (omega arith), omega (arith, put.within, c.loop-d.invariant.1))
