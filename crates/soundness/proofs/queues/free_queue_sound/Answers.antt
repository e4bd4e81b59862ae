-- `soundness::queues::free_queue_sound` meets its contract. Assumes nothing.
use Rattle.std.proofs.Common.{rules, refl, ◌≡◌, length, ◌∙◌}
use mathlib.Core.Bool.{true, and-true}
use Rattle.std.specs.Prelude.{eqb}
use Rattle.ranks.proofs.Lists.{all_cons, all_nil}
use borrow.Author.Tests.{eq-eqb}
use Rattle.octets.proofs.ZeroBytes.{pointwise-zeros}
use Rattle.specification.specs.Sound.{free_queue_rules}
use Rattle.soundness.proofs.queues.free_queue_sound.Goals as goal

pub returns : goal.returns
unfolding free_queue_rules
returns c =
    let q = c.args.q in
    let long : length q.reserved ≡ 4 = search rules in
    let same : eqb q.generation q.generation ≡ true = eq-eqb _ _ refl in
    c.eq.ensures ∙ rw (c.freed.ensures, same, pointwise-zeros 4 q.reserved long) (simp (all_cons, all_nil, and-true))
