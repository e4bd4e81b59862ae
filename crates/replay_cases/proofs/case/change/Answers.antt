-- `replay_cases::case::change`. Assumes nothing.
use Rattle.std.proofs.Common.{sym, ◌∙◌, arith, rules}
use Rattle.replay_cases.proofs.Laws.{one_more, one_out, none_left}
use Rattle.replay_cases.proofs.case.change.Goals as goal

pub loop-rest-preserved-then-place-image : goal.loop-rest-preserved-then-place-image
loop-rest-preserved-then-place-image c =
    let l = c.loop-rest in
    (one_more l.image l.rest.now c.from-place.result _ (omega arith) c.in-len3-up.len_at_least (search rules) ∙ l.invariant.0, search rules)

pub loop-rest-preserved : goal.loop-rest-preserved
loop-rest-preserved c =
    let l = c.loop-rest in
    (one_out l.image l.rest.now c.from-place.result _ (omega arith) c.in-len3-up.len_at_least (search rules) c.if-place-image.false ∙ l.invariant.0, l.invariant.1)

pub returns : goal.returns
returns c = sym (none_left c.loop-rest.image c.loop-rest.rest.now c.in_default.len_below) ∙ c.loop-rest.invariant.0
