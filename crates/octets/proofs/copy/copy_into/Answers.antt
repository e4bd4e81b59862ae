-- `octets::copy::copy_into` meets its contract. Assumes nothing.
use mathlib.Core.Path.{◌≡◌, refl, ap, ◌∙◌}
use native.Mathlib.Numerals.{add-one}
use native.Mathlib.Omega.{arith}
use lib.ListN.{length, length-set}
use lib.Seq.{paste, paste-zero, paste-suc, take-length}
use Rattle.ranks.specs.Table.{spliced}
use Rattle.octets.proofs.copy.copy_into.Goals as goal

pub loop-k-init : goal.loop-k-init
loop-k-init c = (paste-zero c.args.t.now c.args.i c.args.src.now, refl)

pub loop-k-preserved : goal.loop-k-preserved
loop-k-preserved c =
    let a = c.args in
    let v = c.loop-k in
    (rw (v.invariant.0, paste-suc a.t.now a.i a.src.now v.k 0 (omega arith) (omega arith), add-one), simp length-set v.invariant.1)

pub returns : goal.returns
unfolding spliced
returns c =
    let a = c.args in
    let v = c.loop-k in
    let e : v.k ≡ length a.src.now = omega arith in
    v.invariant.0 ∙ ap (paste a.t.now a.i a.src.now) e ∙ rw (take-length a.src.now)
