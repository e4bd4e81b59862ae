-- `fresh_tables::make::write_fresh` meets its contract. Assumes nothing.
use native.Mathlib.Omega.{arith}
use Rattle.records.specs.Bytes.{tables}
use Rattle.records.proofs.EncodeDecode.{lengths}
use Rattle.fresh_tables.proofs.FreshTables.{fresh-written}
use Rattle.fresh_tables.proofs.make.write_fresh.Goals as goal

pub make_tasks-requires : goal.make_tasks-requires
make_tasks-requires c = let a = c.args in ((lengths (tables a.queues.now a.pool.now a.tasks.now) c.requires.0).2, c.requires.1)

pub returns : goal.returns
returns c =
    let a = c.args in
    fresh-written a.queues.now a.pool.now a.tasks.now a.priorities.now c.fill.new.self c.fill-2.new.self c.make_tasks.new.tasks
    c.requires.0 (c.fill.ensures.after (λ y e. e)) (c.fill-2.ensures.after (λ y e. e)) c.make_tasks.ensures c.make_tasks.auto.tasks (λ i. omega (arith, c.type_inv.tasks i))
