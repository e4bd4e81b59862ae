-- `replay_cases::case::case_holds`. Assumes nothing.
use Rattle.std.proofs.Common.{refl}
use Rattle.replay_cases.specs.StoredCase.{case_holds}
use Rattle.replay_cases.proofs.case.case_holds.Goals as goal

pub returns : goal.returns
unfolding case_holds
returns c =
    rw (c.replays_from.ensures, c.with_changes-end.ensures, c.with_changes-start.ensures) refl
