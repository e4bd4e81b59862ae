-- A task's head that was read, changed and written back, or asked. Assumes nothing.
use Prim.Native.Nat.{ℕ, ◌+◌, ◌*◌, ◌<◌}
use mathlib.Core.Path.{◌≡◌, ap, ◌∙◌}
use mathlib.Core.List.{List}
use Rattle.ranks.specs.Lists.{map_with_index}
use Rattle.ranks.specs.Table.{byte}
use Rattle.ranks.proofs.Table.{byte-slice}
use Rattle.records.specs.Layout.{task_count, task_position, task_width}
use native.Mathlib.Omega.{arith}
use Rattle.records.specs.Records.{Task, fresh_task}
use Rattle.records.specs.Bytes.{decode_task, decode_tasks, decode_task_at}
use Rattle.records.specs.Changes.{at_index}
use Rattle.records.specs.TaskHeads.{head_of, with_head}
use Rattle.records.specs.declared.task.TaskHead.{TaskHead}
use Rattle.records.proofs.Writing.{changed-as}

pub head_changed : (tasks tasks' : List ℕ) (t : ℕ) → t < task_count → (made : TaskHead) (f : Task → Task) → with_head made (decode_task_at t tasks) ≡ f (decode_task_at t tasks)
    → decode_tasks tasks' ≡ map_with_index (at_index t (with_head made)) (decode_tasks tasks) → decode_tasks tasks' ≡ map_with_index (at_index t f) (decode_tasks tasks)
head_changed tasks tasks' t h made f same written = written ∙ changed-as decode_task task_count task_width tasks t h (fresh_task 1) (with_head made) f same

pub head-written : (tasks tasks' : List ℕ) (t : ℕ) → t < task_count → (x made : TaskHead) (g : TaskHead → TaskHead) (f : Task → Task) → ((w : Task) → with_head (g (head_of w)) w ≡ f w)
    → x ≡ head_of (decode_task_at t tasks) → made ≡ g x
    → decode_tasks tasks' ≡ map_with_index (at_index t (with_head made)) (decode_tasks tasks) → decode_tasks tasks' ≡ map_with_index (at_index t f) (decode_tasks tasks)
head-written tasks tasks' t h x made g f same read makes written =
    let w : Task = decode_task_at t tasks in
    head_changed tasks tasks' t h made f (ap (λ (y : TaskHead). with_head y w) (makes ∙ ap g read) ∙ same w) written

-- the byte of a task's queue, read without the rest of its head
pub queue_read : (t : ℕ) (tasks : List ℕ) → (decode_task_at t tasks).position.queue ≡ byte (t * task_width + task_position) tasks
unfolding decode_task
queue_read t tasks = byte-slice (t * task_width) task_width tasks task_position (omega arith)
