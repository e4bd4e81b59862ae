-- `ranks::shift` meets its contract. Assumes nothing.
use native.Mathlib.Omega.{arith}
use Prim.Native.Nat.{ℕ}
use mathlib.Core.Path.{refl, sym, ap, ◌∙◌}
use mathlib.Core.List.{List, []}
use lib.ListN.{get_or}
use Rattle.std.specs.Prelude.{Option, unwrap_or}
use Rattle.ranks.specs.Position.{Position}
use Rattle.ranks.specs.Table.{records, put_position}
use Rattle.ranks.proofs.Table.{Made, one-more-stepped, one-more-kept}
use Rattle.ranks.proofs.shift.Goals.{in-Some, in_default}
use Rattle.ranks.proofs.shift.Goals as goal

pub loop-j-preserved : goal.loop-j-preserved
loop-j-preserved g c =
    let a = c.args in
    let R = Made (λ (j : ℕ) (p : Position) (other : Option Position). g.F.Fn.post a.step (j, (p, tt)) other) in
    let p = c.read-p in
    elim c.match-step.branch [
      | in-Some w ↦
          let made : R c.loop-j.j p.result w.in-Some.other = (c.step.result, c.step.ensures, sym (ap (λ (o : Option Position). unwrap_or o p.result) w.in-Some.is)) in
          one-more-stepped {R = R} c.loop-j.invariant c.loop-j-test.true p.result w.in-Some.other p.ensures made c.match-step.auto.t (ap (records a.positions.count a.positions.stride) w.t-is ∙ w.write.ensures)
      | in_default w ↦
          let stays : R c.loop-j.j p.result p.result = (c.step.result, c.step.ensures, sym (ap (λ (o : Option Position). unwrap_or o p.result) w.in_default.is)) in
          one-more-kept {R = R} c.loop-j.invariant c.loop-j-test.true p.result p.result p.ensures stays w.t-is refl
    ]

pub returns : goal.returns
returns g c = λ j h.
    let r : List ℕ = get_or (records c.args.positions.count c.args.positions.stride c.args.t.now) j [] in
    let (p, (other, post, made), written) = c.loop-j.invariant.below j (omega arith) in
    (other, post, written ∙ ap (λ (q : Position). put_position c.args.positions.place q r) made)
