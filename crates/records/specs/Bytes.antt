-- Document 01, "Tables": the bytes of each record and of the tables. "Fixed-size records, no header, little-endian."
use Rattle.std.specs.Prelude.{ℕ, ◌*◌, Bool, ◌&&◌, List, ◌∷◌, ◌++◌, map, length, eqb}
use mathlib.Core.List.{flatten}
use Rattle.ranks.specs.Table.{slice, byte, records, position_in}
use Rattle.octets.specs.LittleEndian.{from_little_endian, to_little_endian}
use Rattle.records.specs.Layout.{capacity, slot_count, queue_width, queues_size, buffer_count, buffer_width, buffer_position, buffer_length, buffer_data, pool_size, task_count, task_width, task_position, task_length, task_data, tasks_size}
use Rattle.records.specs.Records.{Queue, Buffer, Task, State}

-- ---- Records

unfoldable pub decode_queue : List ℕ → Queue
decode_queue r =
    record {
      live = byte 0 r;
      attributes = byte 1 r;
      limit = byte 2 r;
      max_size = byte 3 r;
      generation = from_little_endian (slice 4 2 r);
      pending = byte 6 r;
      waiters = byte 7 r;
      name = from_little_endian (slice 8 4 r);
      reserved = slice 12 4 r;
    }

unfoldable pub encode_queue : Queue → List ℕ
encode_queue q =
    q.live ∷ q.attributes ∷ q.limit ∷ q.max_size ∷ to_little_endian 2 q.generation
    ++ (q.pending ∷ q.waiters ∷ to_little_endian 4 q.name) ++ q.reserved

unfoldable pub decode_buffer : List ℕ → Buffer
decode_buffer r =
    record {
      position = position_in buffer_position r;
      message_length = byte buffer_length r;
      reserved = slice 3 5 r;
      bytes = slice buffer_data capacity r;
    }

unfoldable pub encode_buffer : Buffer → List ℕ
encode_buffer m = m.position.queue ∷ m.position.rank ∷ m.message_length ∷ m.reserved ++ m.bytes

unfoldable pub decode_task : List ℕ → Task
decode_task r =
    record {
      state = byte 0 r;
      position = position_in task_position r;
      priority = byte 3 r;
      status = byte 4 r;
      message_length = byte task_length r;
      reserved = slice 6 2 r;
      ticks_left = from_little_endian (slice 8 4 r);
      reserved_after = slice 12 4 r;
      receive_buffer = slice task_data capacity r;
    }

unfoldable pub encode_task : Task → List ℕ
encode_task w =
    w.state ∷ w.position.queue ∷ w.position.rank ∷ w.priority ∷ w.status ∷ w.message_length
    ∷ w.reserved ++ to_little_endian 4 w.ticks_left ++ w.reserved_after ++ w.receive_buffer

-- ---- Tables

-- one record of a table, by its number
abbrev pub decode_queue_at : (slot : ℕ) (bytes : List ℕ) → Queue
decode_queue_at slot bytes = decode_queue (slice (slot * queue_width) queue_width bytes)

abbrev pub decode_buffer_at : (b : ℕ) (bytes : List ℕ) → Buffer
decode_buffer_at b bytes = decode_buffer (slice (b * buffer_width) buffer_width bytes)

abbrev pub decode_task_at : (t : ℕ) (bytes : List ℕ) → Task
decode_task_at t bytes = decode_task (slice (t * task_width) task_width bytes)

pub record Tables : Type 0 where
  pub queues : List ℕ
  pub pool : List ℕ
  pub tasks : List ℕ

abbrev pub tables : (queues pool tasks : List ℕ) → Tables
tables queues pool tasks = record { queues = queues; pool = pool; tasks = tasks }

abbrev pub decode_queues : List ℕ → List Queue
decode_queues bytes = map decode_queue (records slot_count queue_width bytes)

abbrev pub decode_pool : List ℕ → List Buffer
decode_pool bytes = map decode_buffer (records buffer_count buffer_width bytes)

abbrev pub decode_tasks : List ℕ → List Task
decode_tasks bytes = map decode_task (records task_count task_width bytes)

unfoldable pub decode : Tables → State
decode t = record { queues = decode_queues t.queues; pool = decode_pool t.pool; tasks = decode_tasks t.tasks }

unfoldable pub encode : State → Tables
encode s =
    record {
      queues = flatten (map encode_queue s.queues);
      pool = flatten (map encode_buffer s.pool);
      tasks = flatten (map encode_task s.tasks);
    }

unfoldable pub right_lengths : Tables → Bool
right_lengths t =
    eqb (length t.queues) queues_size && eqb (length t.pool) pool_size && eqb (length t.tasks) tasks_size
