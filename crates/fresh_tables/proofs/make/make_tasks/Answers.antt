-- `fresh_tables::make::make_tasks` meets its contract. Assumes nothing.
use native.Mathlib.Omega.{arith}
use mathlib.Core.Path.{refl, sym, ◌∙◌}
use lib.ListN.{get_or}
use Rattle.records.specs.Layout.{task_count, task_width}
use Rattle.ranks.proofs.Lists.{mapped-cong}
use Rattle.records.specs.Records.{fresh_task}
use Rattle.records.specs.Bytes.{decode_task, decode_tasks}
use Rattle.records.proofs.InTurn.{none-changed, one-more-changed, all_changed}
use Rattle.records.proofs.Writing.{length-decoded}
use borrow.Author.Rules.{rules}
use Rattle.fresh_tables.proofs.make.make_tasks.Goals as goal

pub loop-t-init : goal.loop-t-init
loop-t-init c = none-changed decode_task task_count task_width (λ k w. fresh_task (get_or c.args.priorities.now k 0)) (fresh_task 1) c.args.tasks.now

pub write_fresh_task-requires : goal.write_fresh_task-requires
write_fresh_task-requires c = let inv = c.loop-t.invariant in search rules

pub loop-t-preserved : goal.loop-t-preserved
loop-t-preserved c =
    let a = c.args in
    let v = c.loop-t in
    let done = c.write_fresh_task in
    one-more-changed decode_task task_count task_width (λ k w. fresh_task (get_or a.priorities.now k 0)) (fresh_task 1) a.tasks.now v.tasks v.t v.invariant done.new.tasks (omega (arith, c.loop-t-test.true)) done.auto.tasks done.ensures

pub shape_of-tasks : goal.shape_of-tasks
shape_of-tasks c = c.loop-t.invariant.size

pub returns : goal.returns
returns c =
    let a = c.args in
    let v = c.loop-t in
    all_changed decode_task task_count task_width (λ k w. fresh_task (get_or a.priorities.now k 0)) (fresh_task 1) a.tasks.now v.tasks v.t v.invariant (omega arith)
    ∙ mapped-cong (λ k w. fresh_task (get_or a.priorities.now k 0)) (λ t p. fresh_task p) (decode_tasks a.tasks.now) a.priorities.now (fresh_task 1) 0 (fresh_task 1) (length-decoded decode_task task_count task_width a.tasks.now ∙ sym c.requires.1) (λ i h. refl)
