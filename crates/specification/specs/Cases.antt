-- Document 01, "Cases on each side": W1 to W14 and the errors that it names, with the cases that document 02 adds, as one list. A case is a run
-- from fresh tables: each call with the answer expected, and bytes expected in the tables after it. Further cases are data that the program
-- replay_cases runs.
use Rattle.std.specs.Prelude.{ℕ, ◌+◌, ◌*◌, List, [], ◌∷◌, ◌++◌, map, length}
use Rattle.ranks.specs.Lists.{numbers_from}
use Rattle.ranks.specs.Table.{slice}
use Rattle.records.specs.Layout.{queue_width, buffer_width, task_width}
use Rattle.records.specs.Bytes.{Tables}
use Rattle.records.specs.RecordCases.{zeros}
use Rattle.specification.specs.Answer.{Answer}
use Rattle.specification.specs.Call.{Call, delete, send, urgent, broadcast, receive, get_number_pending, flush, create, on_queue, call, tick}
use Rattle.specification.specs.Run.{Event, run, fresh_tables}

pub data TableName : Type 0 where
  queue_table : TableName
  pool_table : TableName
  task_table : TableName

-- bytes of one record, of record `number` of the table, from `place` in the record on
pub record Excerpt : Type 0 where
  pub table : TableName
  pub number : ℕ
  pub place : ℕ
  pub bytes : List ℕ

pub record Case : Type 0 where
  -- the calls, each with the answer expected
  pub events : List Event
  -- expected after the calls
  pub excerpts : List Excerpt

-- what is seen of a run: its calls and answers, and the bytes at the places that a case names
pub record Seen : Type 0 where
  pub events : List Event
  pub bytes : List (List ℕ)

unfoldable pub expected : Case → Seen
expected k = record { events = k.events; bytes = map (λ x. x.bytes) k.excerpts }

abbrev pub calls_of : Case → List Call
calls_of k = map (λ e. e.call) k.events

abbrev pub width_of : TableName → ℕ
width_of queue_table = queue_width
width_of pool_table = buffer_width
width_of task_table = task_width

abbrev pub table_of : Tables → TableName → List ℕ
table_of t queue_table = t.queues
table_of t pool_table = t.pool
table_of t task_table = t.tasks

-- the bytes at an excerpt's place
unfoldable pub excerpt_bytes : Tables → Excerpt → List ℕ
excerpt_bytes t x = slice (x.number * width_of x.table + x.place) (length x.bytes) (table_of t x.table)

-- the replay program's priorities: "priority t+1 for task t"
abbrev pub rising : List ℕ
rising = numbers_from 1 32

unfoldable pub observed : Case → Seen
observed k =
    let r = run (fresh_tables rising) (calls_of k) in
    record { events = r.events; bytes = map (excerpt_bytes r.tables) k.excerpts }

-- ---- Short forms

abbrev case : List Event → List Excerpt → Case
case events excerpts = record { events = events; excerpts = excerpts }

infix 70 ◌gives◌
abbrev ◌gives◌ : Call → Answer → Event
◌gives◌ c a = record { call = c; answer = a }

-- calls by a task; a queue's name is "Q" in ASCII
abbrev create_by : (task limit max_size attributes : ℕ) → Call
create_by t limit max_size attributes = call t (create 81 limit max_size attributes)

abbrev delete_by : (task id : ℕ) → Call
delete_by t id = call t (on_queue id delete)

abbrev send_by : (task id : ℕ) (message : List ℕ) → Call
send_by t id message = call t (on_queue id (send message))

abbrev urgent_by : (task id : ℕ) (message : List ℕ) → Call
urgent_by t id message = call t (on_queue id (urgent message))

abbrev broadcast_by : (task id : ℕ) (message : List ℕ) → Call
broadcast_by t id message = call t (on_queue id (broadcast message))

-- a receive that waits for as many ticks (0: forever), and one that does not wait
abbrev wait_by : (task id ticks : ℕ) → Call
wait_by t id ticks = call t (on_queue id (receive 0 ticks))

abbrev poll_by : (task id : ℕ) → Call
poll_by t id = call t (on_queue id (receive 1 0))

abbrev pending_by : (task id : ℕ) → Call
pending_by t id = call t (on_queue id get_number_pending)

abbrev flush_by : (task id : ℕ) → Call
flush_by t id = call t (on_queue id flush)

-- answers
abbrev answer : (status value woken : ℕ) → Answer
answer status value woken = record { status = status; value = value; woken = woken }

abbrev done : Answer
done = answer 0 0 0

abbrev value : ℕ → Answer
value n = answer 0 n 0

abbrev wakes : (mask : ℕ) → Answer
wakes mask = answer 0 0 mask

abbrev waits : Answer
waits = answer 14 0 0

abbrev refused : (status : ℕ) → Answer
refused status = answer status 0 0

-- bytes in a record
abbrev in_queue_record : (slot place : ℕ) (bytes : List ℕ) → Excerpt
in_queue_record slot place bytes = record { table = queue_table; number = slot; place = place; bytes = bytes }

abbrev in_buffer : (b place : ℕ) (bytes : List ℕ) → Excerpt
in_buffer b place bytes = record { table = pool_table; number = b; place = place; bytes = bytes }

abbrev in_task : (t place : ℕ) (bytes : List ℕ) → Excerpt
in_task t place bytes = record { table = task_table; number = t; place = place; bytes = bytes }

-- the messages A, B, C, D of one byte
abbrev A : List ℕ
A = 65 ∷ []

abbrev B : List ℕ
B = 66 ∷ []

abbrev C : List ℕ
C = 67 ∷ []

abbrev D : List ℕ
D = 68 ∷ []

-- a message of two bytes
abbrev AB : List ℕ
AB = 65 ∷ 66 ∷ []

-- ---- W1 to W14, and W15
-- A task's first bytes are its state, queue, rank, priority, status and length; byte 8 has its ticks, byte 16 what it received.

unfoldable pub paper_cases : List Case
paper_cases =
    -- W1 first create by task 0: id 16. W2 the next: 17. W3 delete 16, create: 32. W4 then 16 gives 2.
    case
    (create_by 0 2 8 0 gives value 16 ∷ create_by 0 2 8 0 gives value 17
    ∷ delete_by 0 16 gives done ∷ create_by 0 2 8 0 gives value 32 ∷ pending_by 0 16 gives refused 2 ∷ [])
    (in_queue_record 0 0 (1 ∷ 0 ∷ 2 ∷ 8 ∷ 2 ∷ 0 ∷ 0 ∷ 0 ∷ 81 ∷ zeros 7) ∷ in_queue_record 1 4 (1 ∷ 0 ∷ []) ∷ [])
    -- W5 send A, B, urgent C: received C, A, B.
    ∷ case
    (create_by 0 4 8 0 gives value 16 ∷ send_by 0 16 A gives done ∷ send_by 0 16 B gives done ∷ urgent_by 0 16 C gives done
    ∷ poll_by 0 16 gives value 1 ∷ poll_by 1 16 gives value 1 ∷ poll_by 2 16 gives value 1 ∷ [])
    (in_task 0 4 (0 ∷ 1 ∷ []) ∷ in_task 0 16 C ∷ in_task 1 16 A ∷ in_task 2 16 B ∷ [])
    -- W6 urgent C, urgent D: D, C.
    ∷ case
    (create_by 0 4 8 0 gives value 16 ∷ urgent_by 0 16 C gives done ∷ urgent_by 0 16 D gives done
    ∷ poll_by 0 16 gives value 1 ∷ poll_by 1 16 gives value 1 ∷ [])
    (in_task 0 16 D ∷ in_task 1 16 C ∷ [])
    -- W7 limit 2, third send: 5.
    ∷ case
    (create_by 0 2 8 0 gives value 16 ∷ send_by 0 16 A gives done ∷ send_by 0 16 B gives done ∷ send_by 0 16 C gives refused 5 ∷ [])
    (in_queue_record 0 6 (2 ∷ 0 ∷ []) ∷ in_buffer 2 0 (zeros buffer_width) ∷ [])
    -- W8 limit 16, then limit 1 in the share: 6; after a delete, 0.
    ∷ case
    (create_by 0 16 8 0 gives value 16 ∷ create_by 0 1 8 0 gives refused 6
    ∷ delete_by 0 16 gives done ∷ create_by 0 1 8 0 gives value 32 ∷ [])
    []
    -- W9 size equal to max: 0; one more: 3.
    ∷ case
    (create_by 0 2 2 0 gives value 16 ∷ send_by 0 16 (1 ∷ 2 ∷ []) gives done ∷ send_by 0 16 (1 ∷ 2 ∷ 3 ∷ []) gives refused 3 ∷ [])
    []
    -- W10 PRIORITY, waiters 5 then 3: a send wakes 3; without it, 5. Read as priorities, which tasks 4 and 2 have.
    ∷ case
    (create_by 0 2 8 1 gives value 16 ∷ wait_by 4 16 0 gives waits ∷ wait_by 2 16 0 gives waits ∷ send_by 0 16 A gives wakes 4 ∷ [])
    (in_task 2 0 (0 ∷ 0 ∷ 0 ∷ 3 ∷ 0 ∷ 1 ∷ []) ∷ in_task 2 16 A ∷ in_task 4 0 (1 ∷ 1 ∷ 0 ∷ 5 ∷ 14 ∷ 0 ∷ []) ∷ [])
    ∷ case
    (create_by 0 2 8 0 gives value 16 ∷ wait_by 4 16 0 gives waits ∷ wait_by 2 16 0 gives waits ∷ send_by 0 16 A gives wakes 16 ∷ [])
    (in_task 4 0 (0 ∷ 0 ∷ 0 ∷ 5 ∷ 0 ∷ 1 ∷ []) ∷ in_task 4 16 A ∷ in_task 2 0 (1 ∷ 1 ∷ 0 ∷ 3 ∷ 14 ∷ 0 ∷ []) ∷ [])
    -- W10 read as task numbers.
    ∷ case
    (create_by 0 2 8 1 gives value 16 ∷ wait_by 5 16 0 gives waits ∷ wait_by 3 16 0 gives waits ∷ send_by 0 16 A gives wakes 8 ∷ [])
    (in_task 3 16 A ∷ in_task 5 0 (1 ∷ 1 ∷ 0 ∷ 6 ∷ 14 ∷ 0 ∷ []) ∷ [])
    ∷ case
    (create_by 0 2 8 0 gives value 16 ∷ wait_by 5 16 0 gives waits ∷ wait_by 3 16 0 gives waits ∷ send_by 0 16 A gives wakes 32 ∷ [])
    (in_task 5 16 A ∷ in_task 3 0 (1 ∷ 1 ∷ 0 ∷ 4 ∷ 14 ∷ 0 ∷ []) ∷ [])
    -- W11 wait of 1 tick, one tick: value 1, status 7 in the task; a later send is held, pending 1.
    ∷ case
    (create_by 0 2 8 0 gives value 16 ∷ wait_by 1 16 1 gives waits ∷ tick gives answer 0 1 2
    ∷ send_by 0 16 A gives done ∷ pending_by 0 16 gives value 1 ∷ [])
    (in_task 1 0 (0 ∷ 0 ∷ 0 ∷ 2 ∷ 7 ∷ zeros 131) ∷ in_queue_record 0 6 (1 ∷ 0 ∷ []) ∷ in_buffer 0 0 (1 ∷ 0 ∷ 1 ∷ zeros 5 ++ A) ∷ [])
    -- W12 broadcast to none: value 0, pending 0; to three: 3; flush of two held: 2.
    ∷ case
    (create_by 0 2 8 0 gives value 16 ∷ broadcast_by 0 16 A gives value 0 ∷ pending_by 0 16 gives value 0
    ∷ wait_by 1 16 0 gives waits ∷ wait_by 2 16 0 gives waits ∷ wait_by 3 16 0 gives waits ∷ broadcast_by 0 16 B gives answer 0 3 14
    ∷ send_by 0 16 C gives done ∷ send_by 0 16 D gives done ∷ flush_by 0 16 gives value 2 ∷ [])
    (in_task 1 16 B ∷ in_task 2 16 B ∷ in_task 3 0 (0 ∷ 0 ∷ 0 ∷ 4 ∷ 0 ∷ 1 ∷ []) ∷ in_task 3 16 B ∷ [])
    -- W13 task 8 sends to closed 16: 2; to an OPEN one: 0; deletes that: 12.
    ∷ case
    (create_by 0 2 8 0 gives value 16 ∷ create_by 0 2 8 2 gives value 17 ∷ send_by 8 16 A gives refused 2
    ∷ send_by 8 17 A gives done ∷ delete_by 8 17 gives refused 12 ∷ [])
    []
    -- W14 fifth create in a share: 5.
    ∷ case
    (create_by 0 2 8 0 gives value 16 ∷ create_by 0 2 8 0 gives value 17 ∷ create_by 0 2 8 0 gives value 18
    ∷ create_by 0 2 8 0 gives value 19 ∷ create_by 0 2 8 0 gives refused 5 ∷ [])
    []
    -- W15, document 02 [1]: "add a case for size 0". Empty messages are queued: a buffer's owner byte tells that it is used, though its length
    -- is 0. "Max size 0 at create stays refused."
    ∷ case
    (create_by 0 2 0 0 gives refused 3 ∷ create_by 0 2 8 0 gives value 16 ∷ send_by 0 16 [] gives done ∷ urgent_by 0 16 [] gives done
    ∷ pending_by 0 16 gives value 2 ∷ send_by 0 16 [] gives refused 5 ∷ [])
    (in_queue_record 0 6 (2 ∷ 0 ∷ []) ∷ in_buffer 0 0 (1 ∷ 1 ∷ zeros 126) ∷ in_buffer 1 0 (1 ∷ zeros 127) ∷ [])
    -- W15, "a receive of one gives status 0 and value 0": one that was sent, and one that was put before another. The receive buffer keeps the
    -- two bytes that were received before; the message's own buffer is zeroed, and the message behind moves up.
    ∷ case
    (create_by 0 2 8 0 gives value 16 ∷ send_by 0 16 AB gives done ∷ poll_by 1 16 gives value 2
    ∷ send_by 0 16 [] gives done ∷ pending_by 0 16 gives value 1 ∷ poll_by 1 16 gives value 0 ∷ pending_by 0 16 gives value 0
    ∷ send_by 0 16 C gives done ∷ urgent_by 0 16 [] gives done ∷ pending_by 0 16 gives value 2 ∷ poll_by 1 16 gives value 0
    ∷ pending_by 0 16 gives value 1 ∷ [])
    (in_task 1 0 (0 ∷ 0 ∷ 0 ∷ 2 ∷ zeros 12 ++ AB ++ zeros 118) ∷ in_buffer 1 0 (zeros buffer_width) ∷ in_buffer 0 0 (1 ∷ 0 ∷ 1 ∷ zeros 5 ++ C) ∷ [])
    -- W15, to waiters by send, urgent and broadcast: each is woken with status 0 and length 0, and its receive buffer keeps the two bytes that
    -- it received before. A broadcast to none queues nothing.
    ∷ case
    (create_by 0 2 8 0 gives value 16 ∷ wait_by 1 16 0 gives waits ∷ wait_by 2 16 0 gives waits ∷ wait_by 3 16 0 gives waits
    ∷ broadcast_by 0 16 AB gives answer 0 3 14 ∷ wait_by 1 16 0 gives waits ∷ wait_by 2 16 5 gives waits ∷ wait_by 3 16 0 gives waits
    ∷ send_by 0 16 [] gives wakes 2 ∷ urgent_by 0 16 [] gives wakes 4 ∷ broadcast_by 0 16 [] gives answer 0 1 8
    ∷ broadcast_by 0 16 [] gives value 0 ∷ pending_by 0 16 gives value 0 ∷ [])
    (in_task 1 0 (0 ∷ 0 ∷ 0 ∷ 2 ∷ zeros 12 ++ AB) ∷ in_task 2 0 (0 ∷ 0 ∷ 0 ∷ 3 ∷ zeros 12 ++ AB) ∷ in_task 3 0 (0 ∷ 0 ∷ 0 ∷ 4 ∷ zeros 12 ++ AB)
    ∷ in_queue_record 0 6 (zeros 2) ∷ in_buffer 0 0 (zeros buffer_width) ∷ [])
    ∷ []

-- ---- "Errors we have made or seen". The sixth, "a poll that gives 6 though a message is there", is refused by W5 and W6.

unfoldable pub error_cases : List Case
error_cases =
    -- R8 "copying before the size test": the message is refused, a waiter keeps waiting, and no byte is written.
    case
    (create_by 0 2 1 0 gives value 16 ∷ wait_by 1 16 0 gives waits ∷ send_by 0 16 AB gives refused 3 ∷ urgent_by 0 16 AB gives refused 3
    ∷ broadcast_by 0 16 AB gives refused 3 ∷ [])
    (in_task 1 0 (1 ∷ 1 ∷ 0 ∷ 2 ∷ 14 ∷ zeros 131) ∷ in_queue_record 0 6 (0 ∷ 1 ∷ []) ∷ in_buffer 0 0 (zeros buffer_width) ∷ [])
    -- T2 "a tick that skips the next waiter after taking one out": all whose last tick it is leave together, wherever they stand and in whatever
    -- queue; the others keep their order.
    ∷ case
    (create_by 0 2 8 0 gives value 16 ∷ create_by 8 2 8 0 gives value 20 ∷ wait_by 4 16 1 gives waits ∷ wait_by 2 16 1 gives waits
    ∷ wait_by 5 16 0 gives waits ∷ wait_by 3 16 2 gives waits ∷ wait_by 1 16 1 gives waits ∷ wait_by 8 20 1 gives waits
    ∷ tick gives answer 0 4 278 ∷ [])
    (in_task 1 0 (0 ∷ 0 ∷ 0 ∷ 2 ∷ 7 ∷ zeros 7) ∷ in_task 2 0 (0 ∷ 0 ∷ 0 ∷ 3 ∷ 7 ∷ zeros 7) ∷ in_task 4 0 (0 ∷ 0 ∷ 0 ∷ 5 ∷ 7 ∷ zeros 7)
    ∷ in_task 8 0 (0 ∷ 0 ∷ 0 ∷ 9 ∷ 7 ∷ zeros 7) ∷ in_task 5 0 (1 ∷ 1 ∷ 0 ∷ 6 ∷ 14 ∷ zeros 7)
    ∷ in_task 3 0 (1 ∷ 1 ∷ 1 ∷ 4 ∷ 14 ∷ 0 ∷ 0 ∷ 0 ∷ 1 ∷ zeros 3)
    ∷ in_queue_record 0 6 (0 ∷ 2 ∷ []) ∷ in_queue_record 4 6 (zeros 2) ∷ [])
    -- Q8 "one buffer pool for all shares": the message of a foreign task is in a buffer of the owner's share.
    ∷ case
    (create_by 8 4 8 2 gives value 20 ∷ send_by 0 20 A gives done ∷ urgent_by 24 20 B gives done ∷ pending_by 16 20 gives value 2
    ∷ broadcast_by 0 20 C gives value 0 ∷ poll_by 31 20 gives value 1 ∷ [])
    (in_buffer 16 0 (5 ∷ 0 ∷ 1 ∷ zeros 5 ++ A) ∷ in_buffer 17 0 (zeros buffer_width) ∷ in_buffer 0 0 (zeros buffer_width) ∷ in_buffer 48 0 (zeros buffer_width)
    ∷ in_task 31 16 B ∷ [])
    -- T4 "urgent reordering waiters": send and urgent wake the first waiter and leave the others in their order.
    ∷ case
    (create_by 0 2 8 0 gives value 16 ∷ wait_by 3 16 0 gives waits ∷ wait_by 1 16 0 gives waits ∷ wait_by 4 16 0 gives waits
    ∷ wait_by 2 16 0 gives waits ∷ urgent_by 0 16 A gives wakes 8 ∷ send_by 0 16 B gives wakes 2 ∷ [])
    (in_task 3 16 A ∷ in_task 1 16 B ∷ in_task 4 0 (1 ∷ 1 ∷ 0 ∷ 5 ∷ 14 ∷ 0 ∷ []) ∷ in_task 2 0 (1 ∷ 1 ∷ 1 ∷ 3 ∷ 14 ∷ 0 ∷ [])
    ∷ in_queue_record 0 6 (0 ∷ 2 ∷ []) ∷ [])
    -- Q3 "an old id answering for a new queue": an id is of its generation, all of it; no other id of the slot will do, nor that of a queue that
    -- is gone.
    ∷ case
    (create_by 0 2 8 0 gives value 16 ∷ pending_by 0 0 gives refused 2 ∷ pending_by 0 17 gives refused 2 ∷ pending_by 0 32 gives refused 2
    ∷ pending_by 0 4112 gives refused 2 ∷ pending_by 0 1048592 gives refused 2 ∷ pending_by 0 16 gives value 0
    ∷ delete_by 0 16 gives done ∷ pending_by 0 16 gives refused 2 ∷ delete_by 0 16 gives refused 2
    ∷ create_by 0 2 8 0 gives value 32 ∷ delete_by 0 32 gives done ∷ create_by 0 2 8 0 gives value 48
    ∷ pending_by 0 32 gives refused 2 ∷ pending_by 0 1048624 gives refused 2 ∷ pending_by 0 48 gives value 0 ∷ [])
    []
    ∷ []

unfoldable pub cases : List Case
cases = paper_cases ++ error_cases
