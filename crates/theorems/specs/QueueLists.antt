-- A queue as a list: what each directive and the tick do to the messages and the waiters of a queue, with no word of ranks, and what becomes of
-- every queue's and every task's record.
use Rattle.std.specs.Prelude.{◌↔◌, ℕ, suc, ◌-◌, ◌<◌, ◌≡◌, Bool, true, false, not, ◌||◌, List, [], ◌∷◌, ◌++◌, map, length, get_or, take, eqb, ltb, if◌then◌else◌}
use Rattle.ranks.specs.Lists.{keep_if, mask, numbers_from}
use Rattle.ranks.specs.Position.{position_at}
use Rattle.ranks.specs.Steps.{by_rank}
use Rattle.records.specs.Split.{share_of_slot, share_of_task}
use Rattle.records.specs.Layout.{slot_count, buffer_count, task_count, slot_of, id_of}
use Rattle.records.specs.Records.{Queue, Task, State, has_priority, message_in, queue_at, buffer_at, task_at}
use Rattle.records.specs.Changes.{at_index, with_counts, freed, with_waiters, with_message, ready_with, waiting_at, move_task, with_ticks}
use Rattle.records.specs.Bytes.{Tables, decode}
use Rattle.records.specs.Status.{SUCCESSFUL, WAITING, OBJECT-WAS-DELETED, TIMEOUT}
use Rattle.specification.specs.Answer.{Answer, Outcome}
use Rattle.specification.specs.Call.{Operation, Call, delete, send, urgent, broadcast, receive, get_number_pending, flush, create, ident, on_queue, call, tick, arguments_in_range}
use Rattle.specification.specs.Lookup.{has_waiter, has_message}
use Rattle.specification.specs.Create.{is_free_slot, new_queue}
use Rattle.specification.specs.Ident.{is_named}
use Rattle.specification.specs.Submit.{is_free_of}
use Rattle.specification.specs.Tick.{expires, is_timed}
use Rattle.specification.specs.Step.{step}
use Rattle.theorems.specs.SoundTables.{SoundTables, NotRefused}

-- the messages that a queue holds and the tasks that wait in it, the first in front
pub record Contents : Type 0 where
  pub messages : List (List ℕ)
  pub waiters : List ℕ

-- of the queue in a slot, from the tables
unfoldable pub contents : State → (slot : ℕ) → Contents
contents s slot =
    record {
      messages = map (λ b. message_in (buffer_at s b)) (by_rank (λ m. m.position) slot (queue_at s slot).pending s.pool);
      waiters = by_rank (λ w. w.position) slot (queue_at s slot).waiters s.tasks;
    }

-- ---- What an operation does to a queue

-- what the queue holds afterwards, the tasks that are woken, and the status and value answered
pub record Effect : Type 0 where
  pub queue : Contents
  pub woken : List ℕ
  pub status : ℕ
  pub value : ℕ

abbrev pub leaves : (messages : List (List ℕ)) (waiters woken : List ℕ) (value : ℕ) → Effect
leaves messages waiters woken value =
    record { queue = record { messages = messages; waiters = waiters }; woken = woken; status = SUCCESSFUL; value = value }

-- "Else the caller waits, status 14": there is no message
abbrev pub caller_waits : (waiters : List ℕ) → Effect
caller_waits waiters = record { queue = record { messages = []; waiters = waiters }; woken = []; status = WAITING; value = 0 }

-- "behind all of equal or smaller number"
unfoldable pub insert_by_priority : (priority : ℕ → ℕ) (newcomer : ℕ) → List ℕ → List ℕ
insert_by_priority priority newcomer [] = newcomer ∷ []
insert_by_priority priority newcomer (w ∷ ws) =
    if ltb (priority newcomer) (priority w) then newcomer ∷ w ∷ ws else w ∷ insert_by_priority priority newcomer ws

-- the waiter in front takes the message; if none waits, it is queued as `enqueue` says
unfoldable pub submit : (enqueue : List (List ℕ) → List (List ℕ)) → Contents → Effect
submit enqueue q =
    elim q.waiters [ [] ↦ leaves (enqueue q.messages) [] [] 0 | w ∷ ws ↦ leaves q.messages ws (w ∷ []) 0 ]

-- the message in front is taken; if there is none, the caller waits as `wait` says
unfoldable pub take_message : (wait : List ℕ → List ℕ) → Contents → Effect
take_message wait q = elim q.messages [ [] ↦ caller_waits (wait q.waiters) | m ∷ ms ↦ leaves ms q.waiters [] (length m) ]

-- an operation that is not refused, on the queue in the slot
unfoldable pub on_list : State → (caller slot : ℕ) → Operation → Contents → Effect
on_list s caller slot delete q = leaves [] [] q.waiters 0
on_list s caller slot (send message) q = submit (λ ms. ms ++ (message ∷ [])) q
on_list s caller slot (urgent message) q = submit (λ ms. message ∷ ms) q
on_list s caller slot (broadcast message) q = leaves q.messages [] q.waiters (length q.waiters)
on_list s caller slot (receive option ticks) q =
    take_message (λ ws. if has_priority (queue_at s slot) then insert_by_priority (λ t. (task_at s t).priority) caller ws else ws ++ (caller ∷ [])) q
on_list s caller slot get_number_pending q = leaves q.messages q.waiters [] (length q.messages)
on_list s caller slot flush q = leaves [] q.waiters [] (length q.messages)

-- ---- What becomes of the records

unfoldable pub member : ℕ → List ℕ → Bool
member t [] = false
member t (u ∷ us) = eqb t u || member t us

-- the record of task `k`, but for its position
unfoldable pub task_after : (caller : ℕ) → Operation → Contents → (k : ℕ) → Task → Task
task_after caller delete q k w = if member k q.waiters then ready_with OBJECT-WAS-DELETED w else w
task_after caller (send message) q k w = if member k (take 1 q.waiters) then with_message message w else w
task_after caller (urgent message) q k w = if member k (take 1 q.waiters) then with_message message w else w
task_after caller (broadcast message) q k w = if member k q.waiters then with_message message w else w
task_after caller (receive option ticks) q k w =
    if eqb k caller then elim q.messages [ [] ↦ waiting_at w.position ticks w | m ∷ ms ↦ with_message m w ] else w
task_after caller get_number_pending q k w = w
task_after caller flush q k w = w

-- the record of the queue, but for its counts; "the record is zeroed but for its generation"
unfoldable pub queue_after : Operation → Queue → Queue
queue_after delete q = freed q
queue_after (send message) q = q
queue_after (urgent message) q = q
queue_after (broadcast message) q = q
queue_after (receive option ticks) q = q
queue_after get_number_pending q = q
queue_after flush q = q

-- "every waiting task with ticks above 0 loses one; all that reach 0 become ready together with status 7"
unfoldable pub task_after_tick : Task → Task
task_after_tick w = if expires w then ready_with TIMEOUT w else if is_timed w then with_ticks (w.ticks_left - 1) w else w

-- the same but for the position, which is what the lists say (`TestsOnLists.position`; a ready task has none)
abbrev pub SameButPosition : (w w' : Task) → Type 0
SameButPosition w w' = w' ≡ move_task w'.position w

-- the same but for the counts, which are the lengths of the lists (`TestsOnLists.pending`, `TestsOnLists.waiters`)
abbrev pub SameButCounts : (q q' : Queue) → Type 0
SameButCounts q q' = q' ≡ with_counts q'.pending q'.waiters q

-- ---- The statements

-- the mask with the bits of the tasks in a list
abbrev pub mask_of : (tasks : List ℕ) → ℕ
mask_of tasks = mask (map (λ t. member t tasks) (numbers_from 0 task_count))

-- The tests and the counts of the queue in the slot, and its waiters' ranks, are about its lists.
pub record TestsOnLists (s : State) (slot : ℕ) : Type 0 where
  pub no-waiter : (has_waiter s slot ≡ false) ↔ ((contents s slot).waiters ≡ [])
  pub no-message : (has_message s slot ≡ false) ↔ ((contents s slot).messages ≡ [])
  pub pending : (queue_at s slot).pending ≡ length (contents s slot).messages
  pub waiters : (queue_at s slot).waiters ≡ length (contents s slot).waiters
  -- task `k` stands at a rank of the queue exactly if it has that place in the list
  pub position : (k rank : ℕ) → k < task_count → ((task_at s k).position ≡ position_at slot rank) ↔ (get_or (contents s slot).waiters rank task_count ≡ k)

-- the lowest number that passes a test
pub record Lowest (test : ℕ → Bool) (n : ℕ) : Type 0 where
  pub passes : test n ≡ true
  pub least : (i : ℕ) → i < n → test i ≡ false

-- An operation on the queue in the slot, with the outcome `r`: it does `e` to the queue, `task k` to the record of task `k`, and `own` to the
-- queue's own record.
pub record OperationOnLists (s : State) (slot : ℕ) (r : Outcome State) (e : Effect) (task : ℕ → Task → Task) (own : Queue → Queue) : Type 0 where
  pub queue : contents r.after slot ≡ e.queue
  pub others : (i : ℕ) → i < slot_count → (i ≡ slot → ⊥) → contents r.after i ≡ contents s i
  pub status : r.answer.status ≡ e.status
  pub value : r.answer.value ≡ e.value
  pub woken : r.answer.woken ≡ mask_of e.woken
  pub tasks : (k : ℕ) → k < task_count → SameButPosition (task k (task_at s k)) (task_at r.after k)
  pub queues : (i : ℕ) → i < slot_count → SameButCounts (at_index slot own i (queue_at s i)) (queue_at r.after i)
  -- "the lowest free buffer of the owner's share": no other free buffer is used
  pub queued : (b : ℕ) → b < buffer_count → (buffer_at s b).position.queue ≡ 0 → ((buffer_at r.after b).position.queue ≡ 0 → ⊥)
      → Lowest (λ j. is_free_of (share_of_slot slot) j (buffer_at s j)) b

-- A create by a task of the share, with the outcome `r`: "Takes the lowest free slot of the caller's share with generation below 65,535 and
-- raises its generation by one. [...] Value: the id."
pub record CreateOnTables (s : State) (share name limit max_size attributes : ℕ) (r : Outcome State) : Type 0 where
  pub slot : ℕ
  pub lowest : Lowest (λ i. is_free_slot share i (queue_at s i)) slot
  pub answer : r.answer ≡ record { status = SUCCESSFUL; value = id_of (suc (queue_at s slot).generation) slot; woken = 0 }
  pub queues : (i : ℕ) → i < slot_count
      → queue_at r.after i ≡ at_index slot (new_queue name limit max_size attributes) i (queue_at s i)
  pub pool : r.after.pool ≡ s.pool
  pub tasks : r.after.tasks ≡ s.tasks
  pub lists : (i : ℕ) → i < slot_count → contents r.after i ≡ contents s i

-- An ident, with the answer `a`: "Lowest live slot of that share with the name; in a foreign share only OPEN ones. Value: the id."
pub record IdentOnTables (s : State) (caller name share : ℕ) (a : Answer) : Type 0 where
  pub slot : ℕ
  pub lowest : Lowest (λ i. is_named caller name share i (queue_at s i)) slot
  pub answer : a ≡ record { status = SUCCESSFUL; value = id_of (queue_at s slot).generation slot; woken = 0 }

-- the tasks whose last tick has come
abbrev pub expired : State → List ℕ
expired s = keep_if (λ k. expires (task_at s k)) (numbers_from 0 task_count)

-- A tick, with the outcome `r`: "all that reach 0 become ready together [...]. Value: how many; mask set."
pub record TickOnLists (s : State) (r : Outcome State) : Type 0 where
  pub lists : (i : ℕ) → i < slot_count
      → contents r.after i
      ≡ record { messages = (contents s i).messages; waiters = keep_if (λ k. not (expires (task_at s k))) (contents s i).waiters }
  pub status : r.answer.status ≡ SUCCESSFUL
  pub value : r.answer.value ≡ length (expired s)
  pub woken : r.answer.woken ≡ mask_of (expired s)
  pub tasks : (k : ℕ) → k < task_count → SameButPosition (task_after_tick (task_at s k)) (task_at r.after k)
  pub queues : (i : ℕ) → i < slot_count → queue_at r.after i ≡ with_waiters (queue_at r.after i).waiters (queue_at s i)
  pub pool : r.after.pool ≡ s.pool

-- ---- On any sound tables `t`

-- the outcome of a call, with the tables as records
abbrev pub outcome_on : Tables → Call → Outcome State
outcome_on t c = record { answer = (step t c).answer; after = decode (step t c).after }

pub record QueuesAsLists : Type 0 where
  pub tests : (t : Tables) → SoundTables t → (slot : ℕ) → slot < slot_count → TestsOnLists (decode t) slot
  -- calls that are not refused
  pub operation : (t : Tables) (caller id : ℕ) (o : Operation) → SoundTables t → arguments_in_range (call caller (on_queue id o)) ≡ true
      → NotRefused (step t (call caller (on_queue id o))).answer
      → OperationOnLists (decode t) (slot_of id) (outcome_on t (call caller (on_queue id o)))
      (on_list (decode t) caller (slot_of id) o (contents (decode t) (slot_of id)))
      (task_after caller o (contents (decode t) (slot_of id))) (queue_after o)
  pub create : (t : Tables) (caller name limit max_size attributes : ℕ) → SoundTables t
      → arguments_in_range (call caller (create name limit max_size attributes)) ≡ true
      → NotRefused (step t (call caller (create name limit max_size attributes))).answer
      → CreateOnTables (decode t) (share_of_task caller) name limit max_size attributes (outcome_on t (call caller (create name limit max_size attributes)))
  pub ident-changes-nothing : (t : Tables) (caller name share : ℕ) → SoundTables t → (step t (call caller (ident name share))).after ≡ t
  pub ident : (t : Tables) (caller name share : ℕ) → SoundTables t → NotRefused (step t (call caller (ident name share))).answer
      → IdentOnTables (decode t) caller name share (step t (call caller (ident name share))).answer
  pub tick : (t : Tables) → SoundTables t → TickOnLists (decode t) (outcome_on t tick)
