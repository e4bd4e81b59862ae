-- `threadq::masks::mask_of` meets its contract. Assumes nothing.
use Rattle.threadq.proofs.MaskFolds.{MaskedUpTo}
use Rattle.threadq.proofs.masks.mask_of.Given as goal

abbrev pub invariant-loop-t : goal.invariant-loop-t
invariant-loop-t g l = MaskedUpTo (goal.F-post g l.test) l.mask l.t
