-- Changes to one record, and to a table.
use Rattle.std.specs.Prelude.{ℕ, List, ◌++◌, length, drop, replicate, eqb, if◌then◌else◌}
use Rattle.ranks.specs.Lists.{map_with_index}
use Rattle.ranks.specs.Position.{Position, no_queue}
use Rattle.ranks.specs.Steps.{insert_into, take_out_of}
use Rattle.records.specs.Layout.{capacity}
use Rattle.records.specs.Records.{Queue, Buffer, Task, ready_state, waiting_state, free_queue}
use Rattle.records.specs.Status.{SUCCESSFUL, WAITING}

-- `f` is done to record `i` of a table, and nothing to the others
abbrev pub at_index : {A : Type 0} → ℕ → (A → A) → ℕ → A → A
at_index i f j a = if eqb j i then f a else a

-- a table in which `f` is done to record `i`
abbrev pub change_at : {A : Type 0} → ℕ → (A → A) → List A → List A
change_at i f xs = map_with_index (at_index i f) xs

-- ---- Queues

abbrev pub with_counts : (pending waiters : ℕ) → Queue → Queue
with_counts pending waiters q =
    record {
      live = q.live;
      attributes = q.attributes;
      limit = q.limit;
      max_size = q.max_size;
      generation = q.generation;
      pending = pending;
      waiters = waiters;
      name = q.name;
      reserved = q.reserved;
    }

abbrev pub with_pending : ℕ → Queue → Queue
with_pending n q = with_counts n q.waiters q

abbrev pub with_waiters : ℕ → Queue → Queue
with_waiters n q = with_counts q.pending n q

abbrev pub with_generation : ℕ → Queue → Queue
with_generation n q =
    record {
      live = q.live;
      attributes = q.attributes;
      limit = q.limit;
      max_size = q.max_size;
      generation = n;
      pending = q.pending;
      waiters = q.waiters;
      name = q.name;
      reserved = q.reserved;
    }

-- a live queue with no message and no waiter, and the record's generation
abbrev pub live_with : (name limit max_size attributes : ℕ) → Queue → Queue
live_with name limit max_size attributes q =
    record {
      live = 1;
      attributes = attributes;
      limit = limit;
      max_size = max_size;
      generation = q.generation;
      pending = 0;
      waiters = 0;
      name = name;
      reserved = replicate 4 0;
    }

-- "the record is zeroed but for its generation"
abbrev pub freed : Queue → Queue
freed q = free_queue q.generation

-- ---- Buffers

-- a message at the start of some bytes; "bytes beyond the length stay as they were"
abbrev pub overwrite_front : (message bytes : List ℕ) → List ℕ
overwrite_front message bytes = message ++ drop (length message) bytes

abbrev pub move_buffer : Position → Buffer → Buffer
move_buffer p m = record { position = p; message_length = m.message_length; reserved = m.reserved; bytes = m.bytes }

-- a buffer that holds a message, with "zeros after its message"
abbrev pub message_buffer : Position → (message : List ℕ) → Buffer
message_buffer p message =
    record { position = p; message_length = length message; reserved = replicate 5 0; bytes = overwrite_front message (replicate capacity 0) }

-- ---- Tasks

-- the fields of a wait, and the fields of what a task received
abbrev pub with_wait : (state : ℕ) → Position → (ticks_left : ℕ) → Task → Task
with_wait state p ticks_left w =
    record {
      state = state;
      position = p;
      priority = w.priority;
      status = w.status;
      message_length = w.message_length;
      reserved = w.reserved;
      ticks_left = ticks_left;
      reserved_after = w.reserved_after;
      receive_buffer = w.receive_buffer;
    }

abbrev pub with_result : (status message_length : ℕ) (receive_buffer : List ℕ) → Task → Task
with_result status message_length receive_buffer w =
    record {
      state = w.state;
      position = w.position;
      priority = w.priority;
      status = status;
      message_length = message_length;
      reserved = w.reserved;
      ticks_left = w.ticks_left;
      reserved_after = w.reserved_after;
      receive_buffer = receive_buffer;
    }

abbrev pub move_task : Position → Task → Task
move_task p w = with_wait w.state p w.ticks_left w

abbrev pub with_ticks : ℕ → Task → Task
with_ticks n w = with_wait w.state w.position n w

-- The task has left its queue and is ready. "Leaving a queue zeroes queue, rank and ticks."
abbrev pub ready_with : (status : ℕ) → Task → Task
ready_with status w = with_wait ready_state no_queue 0 (with_result status w.message_length w.receive_buffer w)

-- The task is ready and has the message: "message copied, status 0, length set"; "bytes beyond the length stay as they were".
abbrev pub with_message : (message : List ℕ) → Task → Task
with_message message w = with_wait ready_state no_queue 0 (with_result SUCCESSFUL (length message) (overwrite_front message w.receive_buffer) w)

-- The task waits: "status 14, length 0, ticks left as given".
abbrev pub waiting_at : Position → (ticks : ℕ) → Task → Task
waiting_at p ticks w = with_wait waiting_state p ticks (with_result WAITING 0 w.receive_buffer w)

-- ---- A message or a task enters a queue at a rank, or leaves it from there, as `f` says of its record; those behind follow

abbrev pub insert_buffer : (b slot rank : ℕ) → (Buffer → Buffer) → List Buffer → List Buffer
insert_buffer b slot rank f pool = insert_into (λ m. m.position) move_buffer b slot rank f pool

abbrev pub take_out_buffer : (b slot rank : ℕ) → (Buffer → Buffer) → List Buffer → List Buffer
take_out_buffer b slot rank f pool = take_out_of (λ m. m.position) move_buffer b slot rank f pool

abbrev pub insert_task : (t slot rank : ℕ) → (Task → Task) → List Task → List Task
insert_task t slot rank f tasks = insert_into (λ w. w.position) move_task t slot rank f tasks

abbrev pub take_out_task : (t slot rank : ℕ) → (Task → Task) → List Task → List Task
take_out_task t slot rank f tasks = take_out_of (λ w. w.position) move_task t slot rank f tasks
