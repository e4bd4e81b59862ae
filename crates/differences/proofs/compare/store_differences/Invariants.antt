-- The loop of `differences::compare::store_differences`: the entries of the records before record k are stored.
use Rattle.differences.proofs.Storing.{Stored}
use Rattle.differences.proofs.compare.store_differences.Given as goal

abbrev pub invariant-loop-k : goal.invariant-loop-k
invariant-loop-k l = Stored l.one l.two l.initial.list l.list l.n l.k
