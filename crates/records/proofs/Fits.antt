-- Fields that fit their bytes: of records read from bytes, of records in range, and of changed queue records. Assumes nothing.
use Prim.Native.Nat.{ℕ, ◌+◌, ◌≤◌, ◌<◌, ◌^◌}
use native.Mathlib.Nat.{pow-suc}
use native.Mathlib.Omega.{arith}
use mathlib.Core.Path.{◌≡◌, refl, subst}
use mathlib.Core.List.{List, [], ◌∷◌}
use lib.ListN.{length}
use Rattle.ranks.specs.Table.{slice, byte}
use Rattle.octets.specs.LittleEndian.{byte_values, from_little_endian}
use Rattle.records.specs.Layout.{capacity, queue_width, buffer_width, buffer_data, task_width, task_data}
use Rattle.records.specs.Records.{Queue, free_queue}
use Rattle.records.specs.Bytes.{decode_queue, decode_buffer, decode_task}
use Rattle.records.specs.Changes.{with_counts, with_generation, live_with}
use Rattle.records.specs.InRange.{AllBytes, ByteList, QueueInRange, BufferInRange, TaskInRange}
use Rattle.records.proofs.ByteLists.{bytes-head, bytes-tail}
use Rattle.records.proofs.DecodeEncode.{QueueEncodable}
use Rattle.records.proofs.EncodeDecode.{length-slice, bytes-slice}

-- ---- Read from bytes

pub number_bound : (bs : List ℕ) → AllBytes bs → from_little_endian bs < byte_values ^ length bs
unfolding from_little_endian
number_bound [] h = omega arith
number_bound (b ∷ bs) h =
    let ih : from_little_endian bs < byte_values ^ length bs = number_bound bs (bytes-tail h) in
    let lt : b < byte_values = bytes-head h in
    let e = pow-suc byte_values (length bs) in
    omega arith

-- a record of n bytes, and its parts
module _ (r : List ℕ) (n : ℕ) (len : length r ≡ n) (b : AllBytes r) where
  at : (i : ℕ) → i < n → byte i r < byte_values
  at i h = b.below i (omega arith)

  some : (i k : ℕ) → i + k ≤ n → ByteList k (slice i k r)
  some i k h = record { count = length-slice r i k (omega arith); each = bytes-slice r b i k }

  number : (i k : ℕ) → i + k ≤ n → from_little_endian (slice i k r) < byte_values ^ k
  number i k h =
      subst (λ (m : ℕ). from_little_endian (slice i k r) < byte_values ^ m) (length-slice r i k (omega arith)) (number_bound (slice i k r) (bytes-slice r b i k))

pub queue-decoded : (r : List ℕ) → length r ≡ queue_width → AllBytes r → QueueInRange (decode_queue r)
unfolding decode_queue
queue-decoded r n a =
    record {
      live = at r queue_width n a 0 (omega arith);
      attributes = at r queue_width n a 1 (omega arith);
      limit = at r queue_width n a 2 (omega arith);
      max_size = at r queue_width n a 3 (omega arith);
      generation = number r queue_width n a 4 2 (omega arith);
      pending = at r queue_width n a 6 (omega arith);
      waiters = at r queue_width n a 7 (omega arith);
      name = number r queue_width n a 8 4 (omega arith);
      reserved = some r queue_width n a 12 4 (omega arith);
    }

pub buffer-decoded : (r : List ℕ) → length r ≡ buffer_width → AllBytes r → BufferInRange (decode_buffer r)
unfolding decode_buffer
buffer-decoded r n a =
    record {
      queue = at r buffer_width n a 0 (omega arith);
      rank = at r buffer_width n a 1 (omega arith);
      message_length = at r buffer_width n a 2 (omega arith);
      reserved = some r buffer_width n a 3 5 (omega arith);
      bytes = some r buffer_width n a buffer_data capacity (omega arith);
    }

pub task-decoded : (r : List ℕ) → length r ≡ task_width → AllBytes r → TaskInRange (decode_task r)
unfolding decode_task
task-decoded r n a =
    record {
      state = at r task_width n a 0 (omega arith);
      queue = at r task_width n a 1 (omega arith);
      rank = at r task_width n a 2 (omega arith);
      priority = at r task_width n a 3 (omega arith);
      status = at r task_width n a 4 (omega arith);
      message_length = at r task_width n a 5 (omega arith);
      reserved = some r task_width n a 6 2 (omega arith);
      ticks_left = number r task_width n a 8 4 (omega arith);
      reserved_after = some r task_width n a 12 4 (omega arith);
      receive_buffer = some r task_width n a task_data capacity (omega arith);
    }

-- ---- Queue records that can be written

pub queue-encodable : {q : Queue} → QueueInRange q → QueueEncodable q
queue-encodable q = record { generation = q.generation; name = q.name; reserved = q.reserved.count }

-- with other counts
pub counts-fit : {q : Queue} (pending waiters : ℕ) → QueueEncodable q → QueueEncodable (with_counts pending waiters q)
counts-fit pending waiters q = record { generation = q.generation; name = q.name; reserved = q.reserved }

pub free-queue-fits : (generation : ℕ) → generation < 65536 → QueueEncodable (free_queue generation)
free-queue-fits generation h = record { generation = h; name = omega arith; reserved = refl }

pub live-queue-fits : (generation name limit max_size attributes : ℕ) (q : Queue) → generation < 65536 → name < 4294967296
    → QueueEncodable (live_with name limit max_size attributes (with_generation generation q))
live-queue-fits generation name limit max_size attributes q h k = record { generation = h; name = k; reserved = refl }
