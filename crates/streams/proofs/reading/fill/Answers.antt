-- `streams::reading::fill`. Assumes nothing.
use Rattle.std.proofs.Common.{refl, arith, rules}
use Rattle.streams.specs.Filling.{full, ended, failed, more}
use Rattle.streams.proofs.reading.fill.Goals as goal

pub returns-in_err-got-clause-fills : goal.returns-in_err-got-clause-fills
returns-in_err-got-clause-fills g c = c.loop-n.invariant.2 _ _ (failed c.in_err-got.ensures (search rules))

pub returns-in-0-clause-fills : goal.returns-in-0-clause-fills
returns-in-0-clause-fills g c = c.loop-n.invariant.2 _ _ (ended (rw c.in-0.is at c.in_ok-got.ensures) refl)

pub loop-n-preserved : goal.loop-n-preserved
loop-n-preserved g c =
    let read = c.in_ok-got.ensures in
    (omega (arith, read.moved, read.size, c.loop-n.invariant.0), omega (arith, read.size, c.loop-n.invariant.1), λ f new rest. c.loop-n.invariant.2 f new (more read (omega arith) rest))

pub returns-clause-fills : goal.returns-clause-fills
returns-clause-fills g c = c.loop-n.invariant.2 _ _ (full (omega (arith, c.loop-n.invariant.0)) refl)
