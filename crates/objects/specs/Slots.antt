-- What making a queue asks of its slot.
use Rattle.std.specs.Prelude.{ℕ, ◌<◌, ◌≡◌, List, length}
use Rattle.records.specs.Layout.{slot_count, queues_size, last_generation}
use Rattle.records.specs.Bytes.{decode_queue_at}

-- a slot in which a queue can be made
pub record SlotReady (queues : List ℕ) (slot : ℕ) : Type 0 where
  pub queues_length : length queues ≡ queues_size
  pub slot_below : slot < slot_count
  pub not_spent : (decode_queue_at slot queues).generation < last_generation
