-- Document 01, "Tables": the three tables as lists of records, with a field for each field of a record. Reserved bytes are fields too, so
-- that bytes and records correspond whatever the bytes are.
use Rattle.std.specs.Prelude.{ℕ, ◌/◌, ◌%◌, Bool, List, get_or, take, replicate, eqb, leb}
use Rattle.ranks.specs.Lists.{map_with_index, within}
use Rattle.ranks.specs.Position.{Position, no_queue}
use Rattle.records.specs.Layout.{capacity, largest_limit, slot_count, buffer_count}
use Rattle.records.specs.Status.{SUCCESSFUL}
use Rattle.records.specs.declared.queue.QueueRecord.{QueueRecord}

-- "0 live (0/1); 1 attributes (1 PRIORITY, 2 OPEN); 2 limit; 3 max size; 4-5 generation; 6 pending; 7 waiters; 8-11 name; 12-15 zero"
abbrev pub Queue : Type 0
Queue = QueueRecord

-- "0 owner queue (slot+1, 0 free); 1 rank; 2 length; 3-7 zero; 8-127 data"
pub record Buffer : Type 0 where
  pub position : Position
  pub message_length : ℕ
  pub reserved : List ℕ
  pub bytes : List ℕ

-- "0 state (0 ready, 1 waiting); 1 queue (slot+1, 0 none); 2 rank; 3 priority (smaller is more urgent); 4 status; 5 length; 6-7 zero;
-- 8-11 ticks left (0 forever); 12-15 zero; 16-135 the task's receive buffer"
pub record Task : Type 0 where
  pub state : ℕ
  pub position : Position
  pub priority : ℕ
  pub status : ℕ
  pub message_length : ℕ
  pub reserved : List ℕ
  pub ticks_left : ℕ
  pub reserved_after : List ℕ
  pub receive_buffer : List ℕ

pub record State : Type 0 where
  pub queues : List Queue
  pub pool : List Buffer
  pub tasks : List Task

-- ---- What a byte of a record says

abbrev pub is_live : Queue → Bool
is_live q = eqb q.live 1

abbrev pub has_priority : Queue → Bool
has_priority q = eqb (q.attributes % 2) 1

abbrev pub is_open : Queue → Bool
is_open q = eqb (q.attributes / 2 % 2) 1

-- "0 state (0 ready, 1 waiting)"
abbrev pub ready_state : ℕ
ready_state = 0

abbrev pub waiting_state : ℕ
waiting_state = 1

abbrev pub is_waiting : Task → Bool
is_waiting w = eqb w.state waiting_state

-- "attributes 0 to 3, limit 1 to 16, max size 1 to 120"
abbrev pub attributes_allowed : ℕ → Bool
attributes_allowed n = leb n 3

abbrev pub limit_allowed : ℕ → Bool
limit_allowed n = within 1 largest_limit n

abbrev pub max_size_allowed : ℕ → Bool
max_size_allowed n = within 1 capacity n

-- "has length 1 to that queue's max size"; send, urgent and broadcast refuse "size 0 or above max". Document 02 [1] overrules the 1 and the
-- size 0: "Size 0 is now good for send, urgent and broadcast; a used buffer's length is 0 to the max size".
unfoldable pub size_allowed : Queue → (size : ℕ) → Bool
size_allowed q size = leb size q.max_size

-- the queue holds as many messages as its limit says
abbrev pub is_full : Queue → Bool
is_full q = leb q.limit q.pending

-- the message in a buffer
abbrev pub message_in : Buffer → List ℕ
message_in m = take m.message_length m.bytes

-- ---- Free records, and fresh tables

-- "A free queue record is zero but for its generation."
abbrev pub free_queue : (generation : ℕ) → Queue
free_queue generation =
    record
    { live = 0; attributes = 0; limit = 0; max_size = 0; generation = generation; pending = 0; waiters = 0; name = 0; reserved = replicate 4 0 }

-- "A free buffer is all zero."
abbrev pub free_buffer : Buffer
free_buffer = record { position = no_queue; message_length = 0; reserved = replicate 5 0; bytes = replicate capacity 0 }

abbrev pub fresh_task : (priority : ℕ) → Task
fresh_task priority =
    record {
      state = ready_state;
      position = no_queue;
      priority = priority;
      status = SUCCESSFUL;
      message_length = 0;
      reserved = replicate 2 0;
      ticks_left = 0;
      reserved_after = replicate 4 0;
      receive_buffer = replicate capacity 0;
    }

abbrev pub fresh_tasks : (priorities : List ℕ) → List Task
fresh_tasks priorities = map_with_index (λ t priority. fresh_task priority) priorities

-- "Fresh tables are zero but for priorities of 1 to 255."
unfoldable pub fresh : (priorities : List ℕ) → State
fresh priorities =
    record {
      queues = replicate slot_count (free_queue 0);
      pool = replicate buffer_count free_buffer;
      tasks = fresh_tasks priorities;
    }

-- ---- A record by its number. The default is for numbers past the end, which tables of the right lengths are never asked for.

abbrev pub queue_at : State → (slot : ℕ) → Queue
queue_at s slot = get_or s.queues slot (free_queue 0)

abbrev pub buffer_at : State → (b : ℕ) → Buffer
buffer_at s b = get_or s.pool b free_buffer

abbrev pub task_at : State → (t : ℕ) → Task
task_at s t = get_or s.tasks t (fresh_task 1)
