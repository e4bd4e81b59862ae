-- What the code of a tick asks of the tables, and does to a task.
use Rattle.std.specs.Prelude.{ℕ, ◌≤◌, ◌<◌, ◌≡◌, true, List, length}
use Rattle.records.specs.Layout.{slot_count, queues_size, task_count, tasks_size}
use Rattle.records.specs.Records.{Task, is_waiting}
use Rattle.records.specs.Bytes.{decode_task_at}

-- A task that waits names a slot of the table of queues.
abbrev pub NamesSlot : Task → Type 0
NamesSlot w = is_waiting w ≡ true → (1 ≤ w.position.queue) × (w.position.queue ≤ slot_count)

-- The tables' lengths, and a task that names a slot if it waits.
pub record TickedTask (queues tasks : List ℕ) (t : ℕ) : Type 0 where
  pub task_below : t < task_count
  pub queues_length : length queues ≡ queues_size
  pub tasks_length : length tasks ≡ tasks_size
  pub names_slot : NamesSlot (decode_task_at t tasks)
