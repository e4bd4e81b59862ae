-- Which records of which tables a step of a queue changes.
use Rattle.std.specs.Prelude.{ℕ, ◌<◌, ◌≡◌, List, length}
use Rattle.records.specs.Layout.{slot_count, queues_size, buffer_count, pool_size, task_count, tasks_size}

-- the queue of a slot, and a task
pub record QueueAndTask (queues tasks : List ℕ) (slot t : ℕ) : Type 0 where
  pub slot_below : slot < slot_count
  pub task_below : t < task_count
  pub queues_length : length queues ≡ queues_size
  pub tasks_length : length tasks ≡ tasks_size

-- the queue of a slot, and a buffer with a message of it, or for one
pub record QueueAndBuffer (queues pool : List ℕ) (slot b : ℕ) : Type 0 where
  pub slot_below : slot < slot_count
  pub buffer_below : b < buffer_count
  pub queues_length : length queues ≡ queues_size
  pub pool_length : length pool ≡ pool_size
