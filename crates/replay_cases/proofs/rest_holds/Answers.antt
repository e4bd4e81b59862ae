-- `replay_cases::rest_holds`. Assumes nothing.
use Rattle.std.proofs.Common.{arith, rules}
use Rattle.replay_cases.proofs.Laws.{few-records}
use Rattle.replay_cases.proofs.rest_holds.Goals as goal

pub case_holds-requires : goal.case_holds-requires
case_holds-requires c =
    let a = c.args in
    (search rules, few-records a.p.log a.p.answers a.rest.now (omega arith) (omega arith) (omega arith))
