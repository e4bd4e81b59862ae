-- `ranks::shift` meets its contract. Assumes nothing.
use Rattle.ranks.proofs.Table.{SteppedUpTo, Made}
use Rattle.ranks.proofs.shift.Given as goal

abbrev pub invariant-loop-j : goal.invariant-loop-j
invariant-loop-j g l =
    SteppedUpTo l.positions.stride l.positions.place l.positions.count (Made (λ j p other. g.F.Fn.post l.step (j, (p, tt)) other)) l.initial.t l.t l.j
