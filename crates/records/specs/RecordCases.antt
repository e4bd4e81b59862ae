-- Document 01, "Tables": a record of each kind, free and fresh records, and changed records, each with its bytes; the share of each record;
-- and the bytes of fresh tables.
use Rattle.std.specs.Prelude.{ℕ, ◌≡◌, List, [], ◌∷◌, ◌++◌, map, replicate}
use mathlib.Core.List.{flatten}
use Rattle.ranks.specs.Lists.{numbers_from}
use Rattle.ranks.specs.Position.{position_at}
use Rattle.records.specs.Split.{share_of_slot, share_of_buffer, share_of_task, share_limit}
use Rattle.records.specs.Records.{Queue, Buffer, Task, free_queue, free_buffer, fresh_task, fresh}
use Rattle.records.specs.Bytes.{decode_queue, encode_queue, decode_buffer, encode_buffer, decode_task, encode_task, encode}
use Rattle.records.specs.Changes.{with_pending, with_waiters, with_generation, live_with, freed, move_buffer, message_buffer, with_ticks, move_task, ready_with, with_message, waiting_at}
use Rattle.records.specs.Status.{TIMEOUT}

-- ---- Every byte of these is one more than its place.

unfoldable pub example_queue : Queue
example_queue =
    record {
      live = 1;
      attributes = 2;
      limit = 3;
      max_size = 4;
      generation = 0x0605;
      pending = 7;
      waiters = 8;
      name = 0x0c0b0a09;
      reserved = 13 ∷ 14 ∷ 15 ∷ 16 ∷ [];
    }

unfoldable pub queue_bytes : List ℕ
queue_bytes = 1 ∷ 2 ∷ 3 ∷ 4 ∷ 5 ∷ 6 ∷ 7 ∷ 8 ∷ 9 ∷ 10 ∷ 11 ∷ 12 ∷ 13 ∷ 14 ∷ 15 ∷ 16 ∷ []

unfoldable pub example_buffer : Buffer
example_buffer =
    record { position = record { queue = 1; rank = 2 }; message_length = 3; reserved = 4 ∷ 5 ∷ 6 ∷ 7 ∷ 8 ∷ []; bytes = numbers_from 9 120 }

unfoldable pub buffer_bytes : List ℕ
buffer_bytes = 1 ∷ 2 ∷ 3 ∷ 4 ∷ 5 ∷ 6 ∷ 7 ∷ 8 ∷ numbers_from 9 120

unfoldable pub example_task : Task
example_task =
    record {
      state = 1;
      position = record { queue = 2; rank = 3 };
      priority = 4;
      status = 5;
      message_length = 6;
      reserved = 7 ∷ 8 ∷ [];
      ticks_left = 0x0c0b0a09;
      reserved_after = 13 ∷ 14 ∷ 15 ∷ 16 ∷ [];
      receive_buffer = numbers_from 17 120;
    }

unfoldable pub task_bytes : List ℕ
task_bytes = 1 ∷ 2 ∷ 3 ∷ 4 ∷ 5 ∷ 6 ∷ 7 ∷ 8 ∷ 9 ∷ 10 ∷ 11 ∷ 12 ∷ 13 ∷ 14 ∷ 15 ∷ 16 ∷ numbers_from 17 120

-- ---- Records and their bytes

pub record Expectation : Type 0 where
  pub actual : List ℕ
  pub expected : List ℕ

infix 60 ◌are◌
abbrev ◌are◌ : (actual expected : List ℕ) → Expectation
◌are◌ actual expected = record { actual = actual; expected = expected }

abbrev pub zeros : ℕ → List ℕ
zeros n = replicate n 0

unfoldable pub record_cases : List Expectation
record_cases =
    (encode_queue example_queue are queue_bytes)
    ∷ (encode_buffer example_buffer are buffer_bytes)
    ∷ (encode_task example_task are task_bytes)
    -- "A free queue record is zero but for its generation." "A free buffer is all zero."
    ∷ (encode_queue (free_queue 0) are zeros 16)
    ∷ (encode_queue (free_queue 0x0201) are (0 ∷ 0 ∷ 0 ∷ 0 ∷ 1 ∷ 2 ∷ zeros 10))
    ∷ (encode_buffer free_buffer are zeros 128)
    -- "Fresh tables are zero but for priorities of 1 to 255."
    ∷ (encode_task (fresh_task 255) are (0 ∷ 0 ∷ 0 ∷ 255 ∷ zeros 132))
    -- other counts
    ∷ (encode_queue (with_pending 100 example_queue) are (1 ∷ 2 ∷ 3 ∷ 4 ∷ 5 ∷ 6 ∷ 100 ∷ numbers_from 8 9))
    ∷ (encode_queue (with_waiters 100 example_queue) are (1 ∷ 2 ∷ 3 ∷ 4 ∷ 5 ∷ 6 ∷ 7 ∷ 100 ∷ numbers_from 9 8))
    -- another generation, a live queue with no message and no waiter, and one that is zeroed but for its generation
    ∷ (encode_queue (with_generation 0x0201 example_queue) are (1 ∷ 2 ∷ 3 ∷ 4 ∷ 1 ∷ 2 ∷ numbers_from 7 10))
    ∷ (encode_queue (live_with 0x04030201 100 101 102 example_queue) are (1 ∷ 102 ∷ 100 ∷ 101 ∷ 5 ∷ 6 ∷ 0 ∷ 0 ∷ 1 ∷ 2 ∷ 3 ∷ 4 ∷ zeros 4))
    ∷ (encode_queue (freed example_queue) are (0 ∷ 0 ∷ 0 ∷ 0 ∷ 5 ∷ 6 ∷ zeros 10))
    -- a message of two bytes at rank 2 of the queue in slot 4, and a message that moves there
    ∷ (encode_buffer (message_buffer (position_at 4 2) (201 ∷ 202 ∷ [])) are (5 ∷ 2 ∷ 2 ∷ zeros 5 ++ (201 ∷ 202 ∷ zeros 118)))
    ∷ (encode_buffer (move_buffer (position_at 4 2) example_buffer) are (5 ∷ 2 ∷ numbers_from 3 126))
    -- an empty message at rank 0 of that queue: only the owner byte is not zero
    ∷ (encode_buffer (message_buffer (position_at 4 0) []) are (5 ∷ zeros 127))
    -- "message copied, status 0, length set"; queue, rank and ticks are 0; "bytes beyond the length stay as they were"
    ∷ (encode_task (with_message (201 ∷ 202 ∷ 203 ∷ []) example_task)
    are (0 ∷ 0 ∷ 0 ∷ 4 ∷ 0 ∷ 3 ∷ 7 ∷ 8 ∷ 0 ∷ 0 ∷ 0 ∷ 0 ∷ 13 ∷ 14 ∷ 15 ∷ 16 ∷ 201 ∷ 202 ∷ 203 ∷ numbers_from 20 117))
    -- the same of an empty message: the whole receive buffer stays
    ∷ (encode_task (with_message [] example_task) are (0 ∷ 0 ∷ 0 ∷ 4 ∷ 0 ∷ 0 ∷ 7 ∷ 8 ∷ 0 ∷ 0 ∷ 0 ∷ 0 ∷ numbers_from 13 124))
    -- a task that timed out
    ∷ (encode_task (ready_with TIMEOUT example_task) are (0 ∷ 0 ∷ 0 ∷ 4 ∷ 7 ∷ 6 ∷ 7 ∷ 8 ∷ 0 ∷ 0 ∷ 0 ∷ 0 ∷ numbers_from 13 124))
    -- "the caller waits, status 14, length 0, ticks left as given"
    ∷ (encode_task (waiting_at (position_at 4 2) 0x04030201 example_task) are (1 ∷ 5 ∷ 2 ∷ 4 ∷ 14 ∷ 0 ∷ 7 ∷ 8 ∷ 1 ∷ 2 ∷ 3 ∷ 4 ∷ numbers_from 13 124))
    -- a waiter that moves, and one with other ticks
    ∷ (encode_task (move_task (position_at 4 2) example_task) are (1 ∷ 5 ∷ 2 ∷ numbers_from 4 133))
    ∷ (encode_task (with_ticks 0x04030201 example_task) are (1 ∷ 2 ∷ 3 ∷ 4 ∷ 5 ∷ 6 ∷ 7 ∷ 8 ∷ 1 ∷ 2 ∷ 3 ∷ 4 ∷ numbers_from 13 124))
    ∷ []

-- ---- The split

unfoldable pub split_cases : List Expectation
split_cases =
    -- "Share p (0 to 3) owns slots 4p to 4p+3, buffers 16p to 16p+15, tasks 8p to 8p+7." What is past the end is of no share, 4.
    (map share_of_slot (numbers_from 0 17) are (replicate 4 0 ++ replicate 4 1 ++ replicate 4 2 ++ replicate 4 3 ++ (4 ∷ [])))
    ∷ (map share_of_buffer (numbers_from 0 65) are (replicate 16 0 ++ replicate 16 1 ++ replicate 16 2 ++ replicate 16 3 ++ (4 ∷ [])))
    ∷ (map share_of_task (numbers_from 0 33) are (replicate 8 0 ++ replicate 8 1 ++ replicate 8 2 ++ replicate 8 3 ++ (4 ∷ [])))
    -- "In each share the limits of live queues sum to at most 16."
    ∷ (map share_limit (numbers_from 0 5) are (16 ∷ 16 ∷ 16 ∷ 16 ∷ 0 ∷ []))
    ∷ []

-- ---- Fresh tables

-- the bytes of a fresh task
unfoldable pub fresh_task_bytes : (priority : ℕ) → List ℕ
fresh_task_bytes priority = 0 ∷ 0 ∷ 0 ∷ priority ∷ zeros 132

-- ---- The statement

pub record LiteralsHold : Type 0 where
  pub records : map (λ k. k.actual) record_cases ≡ map (λ k. k.expected) record_cases
  pub split : map (λ k. k.actual) split_cases ≡ map (λ k. k.expected) split_cases
  -- the bytes are read back
  pub queue-read : decode_queue queue_bytes ≡ example_queue
  pub buffer-read : decode_buffer buffer_bytes ≡ example_buffer
  pub task-read : decode_task task_bytes ≡ example_task
  -- "Fresh tables are zero but for priorities of 1 to 255."
  pub fresh-tables : (priorities : List ℕ)
      → encode (fresh priorities) ≡ record { queues = zeros 256; pool = zeros 8192; tasks = flatten (map fresh_task_bytes priorities) }
