-- `threadq::waitrank::priority_rank` meets its contract. Assumes nothing.
use Prim.Native.Nat.{min}
use mathlib.Core.Path.{refl, ◌∙◌}
use Rattle.std.proofs.Common.{rules, tests}
use Rattle.std.proofs.lemmas.Iterator.{YieldsList-from_range}
use Rattle.std.proofs.lemmas.Iterator.Consumers.{fold_from_yields_List}
use Rattle.records.specs.Layout.{task_count}
use Rattle.records.specs.Bytes.{decode_task_at}
use Rattle.specification.specs.Receive.{rank_behind}
use Rattle.threadq.proofs.LeastFolds.{least_of-tasks}
use Rattle.threadq.proofs.waitrank.priority_rank.Goals as goal

pub returns : goal.returns
returns c =
    let a = c.args in
    fold_from_yields_List _ (λ m t. min m (rank_behind a.slot a.priority a.rear (decode_task_at t a.tasks.now))) a.rear c.fold.result c.fold.ensures.ran
    (YieldsList-from_range 0 task_count task_count refl refl) (λ m t r q k. search (rules, tests))
    ∙ least_of-tasks (rank_behind a.slot a.priority a.rear) a.rear a.tasks.now
