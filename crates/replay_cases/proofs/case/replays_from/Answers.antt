-- `replay_cases::case::replays_from`. Assumes nothing.
use Rattle.replay_cases.specs.StoredCase.{tables_in}
use Rattle.replay_cases.proofs.case.replays_from.Goals as goal

pub returns : goal.returns
unfolding tables_in
returns c = rw (c.bytes_at-queues.ensures, c.bytes_at-pool.ensures, c.bytes_at-tasks.ensures) at c.replays_to.ensures
