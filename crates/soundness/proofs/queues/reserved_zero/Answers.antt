-- `soundness::queues::reserved_zero` meets its contract. Assumes nothing.
use Rattle.std.proofs.Common.{rules, ◌≡◌, length, ◌∙◌}
use Rattle.octets.proofs.ZeroBytes.{pointwise-zeros}
use Rattle.soundness.proofs.queues.reserved_zero.Goals as goal

pub returns : goal.returns
returns c = let long : length c.args.reserved ≡ 4 = search rules in c.eq.ensures ∙ pointwise-zeros 4 c.args.reserved long
