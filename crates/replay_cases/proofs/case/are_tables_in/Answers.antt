-- `replay_cases::case::are_tables_in`. Assumes nothing.
use Rattle.records.specs.Bytes.{tables}
use Rattle.ranks.specs.Table.{slice}
use Rattle.replay_cases.specs.StoredCase.{tables_in}
use Rattle.replay_cases.proofs.Laws.{same_in_tables}
use Rattle.replay_cases.proofs.case.are_tables_in.Goals as goal

pub returns : goal.returns
unfolding tables_in slice
returns c =
    let a = c.args in
    same_in_tables (tables a.queues.now a.pool.now a.tasks.now) (tables_in a.image.now) c.eq.result c.eq-2.result c.eq-3.result c.eq.ensures c.eq-2.ensures c.eq-3.ensures
