-- What a byte can hold: tables of bytes of the right lengths, and records whose fields fit the bytes they are written in.
use Rattle.std.specs.Prelude.{ℕ, ◌<◌, ◌≡◌, true, List, length, get_or}
use Rattle.octets.specs.LittleEndian.{byte_values}
use Rattle.records.specs.Layout.{capacity, slot_count, buffer_count, task_count}
use Rattle.records.specs.Records.{Queue, Buffer, Task, State, queue_at, buffer_at, task_at}
use Rattle.records.specs.Bytes.{Tables, right_lengths}

-- every number of the list is a byte
pub record AllBytes (r : List ℕ) : Type 0 where
  pub below : (i : ℕ) → i < length r → get_or r i 0 < byte_values

pub record ByteTables (t : Tables) : Type 0 where
  pub lengths : right_lengths t ≡ true
  pub queues : AllBytes t.queues
  pub pool : AllBytes t.pool
  pub tasks : AllBytes t.tasks

-- a list of `n` bytes
pub record ByteList (n : ℕ) (r : List ℕ) : Type 0 where
  pub count : length r ≡ n
  pub each : AllBytes r

pub record QueueInRange (q : Queue) : Type 0 where
  pub live : q.live < byte_values
  pub attributes : q.attributes < byte_values
  pub limit : q.limit < byte_values
  pub max_size : q.max_size < byte_values
  pub generation : q.generation < 65536
  pub pending : q.pending < byte_values
  pub waiters : q.waiters < byte_values
  pub name : q.name < 4294967296
  pub reserved : ByteList 4 q.reserved

pub record BufferInRange (m : Buffer) : Type 0 where
  pub queue : m.position.queue < byte_values
  pub rank : m.position.rank < byte_values
  pub message_length : m.message_length < byte_values
  pub reserved : ByteList 5 m.reserved
  pub bytes : ByteList capacity m.bytes

pub record TaskInRange (w : Task) : Type 0 where
  pub state : w.state < byte_values
  pub queue : w.position.queue < byte_values
  pub rank : w.position.rank < byte_values
  pub priority : w.priority < byte_values
  pub status : w.status < byte_values
  pub message_length : w.message_length < byte_values
  pub reserved : ByteList 2 w.reserved
  pub ticks_left : w.ticks_left < 4294967296
  pub reserved_after : ByteList 4 w.reserved_after
  pub receive_buffer : ByteList capacity w.receive_buffer

pub record FieldsInRange (s : State) : Type 0 where
  pub queues_length : length s.queues ≡ slot_count
  pub pool_length : length s.pool ≡ buffer_count
  pub tasks_length : length s.tasks ≡ task_count
  pub queues : (i : ℕ) → i < slot_count → QueueInRange (queue_at s i)
  pub pool : (b : ℕ) → b < buffer_count → BufferInRange (buffer_at s b)
  pub tasks : (t : ℕ) → t < task_count → TaskInRange (task_at s t)
