-- The head of a task record: what stands before its receive buffer, but for the zero bytes 12 to 15.
use Rattle.std.specs.Prelude.{ℕ}
use Rattle.records.specs.Records.{Task, ready_state, waiting_state}
use Rattle.records.specs.Status.{SUCCESSFUL, WAITING}
use Rattle.records.specs.declared.task.TaskHead.{TaskHead}

abbrev pub head_of : Task → TaskHead
head_of w =
    record {
      state = w.state;
      queue = w.position.queue;
      rank = w.position.rank;
      priority = w.priority;
      status = w.status;
      message_length = w.message_length;
      reserved = w.reserved;
      ticks_left = w.ticks_left;
    }

abbrev pub with_head : TaskHead → Task → Task
with_head h w =
    record {
      state = h.state;
      position = record { queue = h.queue; rank = h.rank };
      priority = h.priority;
      status = h.status;
      message_length = h.message_length;
      reserved = h.reserved;
      ticks_left = h.ticks_left;
      reserved_after = w.reserved_after;
      receive_buffer = w.receive_buffer;
    }

-- "Leaving a queue zeroes queue, rank and ticks."
abbrev pub ready_head : (status : ℕ) → TaskHead → TaskHead
ready_head status h =
    record {
      state = ready_state;
      queue = 0;
      rank = 0;
      priority = h.priority;
      status = status;
      message_length = h.message_length;
      reserved = h.reserved;
      ticks_left = 0;
    }

-- "status 0, length set"
abbrev pub message_head : (message_length : ℕ) → TaskHead → TaskHead
message_head message_length h =
    record {
      state = ready_state;
      queue = 0;
      rank = 0;
      priority = h.priority;
      status = SUCCESSFUL;
      message_length = message_length;
      reserved = h.reserved;
      ticks_left = 0;
    }

-- "status 14, length 0, ticks left as given"
abbrev pub waiting_head : (queue rank ticks : ℕ) → TaskHead → TaskHead
waiting_head queue rank ticks h =
    record {
      state = waiting_state;
      queue = queue;
      rank = rank;
      priority = h.priority;
      status = WAITING;
      message_length = 0;
      reserved = h.reserved;
      ticks_left = ticks;
    }

abbrev pub ticked_head : (ticks : ℕ) → TaskHead → TaskHead
ticked_head ticks h =
    record {
      state = h.state;
      queue = h.queue;
      rank = h.rank;
      priority = h.priority;
      status = h.status;
      message_length = h.message_length;
      reserved = h.reserved;
      ticks_left = ticks;
    }
