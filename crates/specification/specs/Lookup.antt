-- What the directives ask of the tables, and how a task leaves a queue.
use Rattle.std.specs.Prelude.{ℕ, ◌-◌, Bool, ◌||◌, not, List, [], ◌∷◌, eqb, ltb, if◌then◌else◌}
use Rattle.ranks.specs.Lists.{map_with_index, all_true}
use Rattle.ranks.specs.Position.{in_queue}
use Rattle.ranks.specs.Steps.{record_at}
use Rattle.records.specs.Split.{share_of_slot, share_of_task}
use Rattle.records.specs.Layout.{slot_of, generation_of, buffer_count, task_count}
use Rattle.records.specs.Records.{Queue, Buffer, Task, State, is_live, is_open, free_buffer, queue_at}
use Rattle.records.specs.Changes.{change_at, with_waiters, take_out_task}
use Rattle.records.specs.Status.{INVALID-ID, ILLEGAL-ON-REMOTE-OBJECT}
use Rattle.specification.specs.Answer.{Refusal, ◌⇒◌}

-- "An id is usable if its slot (id mod 16) is live, id div 16 is its generation, and the slot is in the caller's share or OPEN."
-- The queue in the id's slot is `q`.
abbrev pub usable_queue : Queue → (caller id : ℕ) → Bool
usable_queue q caller id =
    all_true
    (is_live q
    ∷ eqb (generation_of id) q.generation
    ∷ (eqb (share_of_slot (slot_of id)) (share_of_task caller) || is_open q)
    ∷ [])

unfoldable pub usable : State → (caller id : ℕ) → Bool
usable s caller id = usable_queue (queue_at s (slot_of id)) caller id

-- the slot is of another share than the caller
unfoldable pub is_foreign : (caller slot : ℕ) → Bool
is_foreign caller slot = not (eqb (share_of_slot slot) (share_of_task caller))

-- "2, 12", for the queue `q` in the id's slot: what only the queue's own share may do
abbrev pub owner_tests : Queue → (caller id : ℕ) → List Refusal
owner_tests q caller id = (not (usable_queue q caller id) ⇒ INVALID-ID) ∷ (is_foreign caller (slot_of id) ⇒ ILLEGAL-ON-REMOTE-OBJECT) ∷ []

-- the waiter at rank 0 of the queue in a slot, or 32
unfoldable pub first_waiter : State → (slot : ℕ) → ℕ
first_waiter s slot = record_at (λ w. w.position) slot 0 s.tasks

abbrev pub has_waiter : State → (slot : ℕ) → Bool
has_waiter s slot = ltb (first_waiter s slot) task_count

-- the message at rank 0 of the queue in a slot, or 64
unfoldable pub first_message : State → (slot : ℕ) → ℕ
first_message s slot = record_at (λ m. m.position) slot 0 s.pool

abbrev pub has_message : State → (slot : ℕ) → Bool
has_message s slot = ltb (first_message s slot) buffer_count

-- which tasks wait in the queue of a slot
unfoldable pub waiters_of : (slot : ℕ) → List Task → List Bool
waiters_of slot tasks = map_with_index (λ t w. in_queue slot w.position) tasks

-- Task `t` leaves the queue of the slot, where it stands at the rank, as `f` says of its record; those behind move up.
unfoldable pub leave : State → (t slot rank : ℕ) → (Task → Task) → State
leave s t slot rank f =
    record {
      queues = change_at slot (λ q. with_waiters (q.waiters - 1) q) s.queues;
      pool = s.pool;
      tasks = take_out_task t slot rank f s.tasks;
    }

-- a task that waits in the queue of the slot leaves it, as `f` says of its record
abbrev pub leave_if_in : (slot : ℕ) → (Task → Task) → Task → Task
leave_if_in slot f w = if in_queue slot w.position then f w else w

-- every task that waits there does
unfoldable pub without_waiters : (slot : ℕ) → (Task → Task) → List Task → List Task
without_waiters slot f tasks = map_with_index (λ t w. leave_if_in slot f w) tasks

-- a buffer of the queue in the slot is zeroed
abbrev pub free_if_in : (slot : ℕ) → Buffer → Buffer
free_if_in slot m = if in_queue slot m.position then free_buffer else m

-- every buffer of it is
unfoldable pub without_messages : (slot : ℕ) → List Buffer → List Buffer
without_messages slot pool = map_with_index (λ b m. free_if_in slot m) pool
