-- `threadq::waiters::first_waiter` meets its contract. Assumes nothing.
use mathlib.Core.Path.{refl, ap, ◌∙◌}
use Rattle.ranks.specs.Lists.{found_below}
use Rattle.records.specs.Layout.{task_count, task_position, task_width}
use Rattle.records.specs.Records.{fresh_task}
use Rattle.records.specs.Bytes.{decode_task}
use Rattle.objects.proofs.Searches.{first-decoded}
use Rattle.threadq.proofs.waiters.first_waiter.Goals as goal

pub returns : goal.returns
unfolding decode_task
returns c =
    let a = c.args in
    c.first.ensures ∙ ap (found_below task_count) (first-decoded decode_task (λ w. w.position) task_position task_count task_width a.slot a.tasks.now (fresh_task 1) (λ r. refl))
