-- Document 01, "Sound tables", rule by rule. "Tables are sound exactly if all of this holds."
use Rattle.std.specs.Prelude.{ℕ, pred, Bool, ◌&&◌, ◌||◌, List, [], ◌∷◌, eqb, leb, ltb, drop, if◌then◌else◌}
use Rattle.ranks.specs.Lists.{◌implies◌, map_with_index, all_true, every, sum_of, all_zero, numbers_from}
use Rattle.ranks.specs.Position.{Position, in_queue}
use Rattle.ranks.specs.Steps.{ranked}
use Rattle.records.specs.Split.{share_count, share_of_slot, share_of_buffer, share_of_task, share_limit}
use Rattle.records.specs.Layout.{capacity, slot_count}
use Rattle.records.specs.Records.{Queue, Buffer, Task, State, is_live, has_priority, is_open, ready_state, is_waiting, attributes_allowed, limit_allowed, max_size_allowed, size_allowed, queue_at}
use Rattle.records.specs.Status.{SUCCESSFUL, TIMEOUT, OBJECT-WAS-DELETED, WAITING}

-- "A queue's live byte [is] 0 or 1. A free queue record is zero but for its generation."
unfoldable pub free_queue_rules : Queue → List Bool
free_queue_rules q =
    eqb q.live 0
    ∷ eqb q.attributes 0
    ∷ eqb q.limit 0
    ∷ eqb q.max_size 0
    ∷ eqb q.pending 0
    ∷ eqb q.waiters 0
    ∷ eqb q.name 0
    ∷ all_zero q.reserved
    ∷ []

-- "A live one has attributes 0 to 3, limit 1 to 16, max size 1 to 120, generation at least 1, name not 0, bytes 12-15 zero, pending at
-- most the limit, and pending or waiters 0."
unfoldable pub live_queue_rules : Queue → List Bool
live_queue_rules q =
    attributes_allowed q.attributes
    ∷ limit_allowed q.limit
    ∷ max_size_allowed q.max_size
    ∷ leb 1 q.generation
    ∷ leb 1 q.name
    ∷ all_zero q.reserved
    ∷ leb q.pending q.limit
    ∷ (eqb q.pending 0 || eqb q.waiters 0)
    ∷ []

unfoldable pub sound_queue : Queue → Bool
sound_queue q = if is_live q then all_true (live_queue_rules q) else all_true (free_queue_rules q)

-- what the queue in slot `i` adds to the limits of the share
abbrev pub limit_in : (share i : ℕ) → Queue → ℕ
limit_in share i q = if eqb (share_of_slot i) share && is_live q then q.limit else 0

-- the sum of the limits of a share's live queues
unfoldable pub limits : State → (share : ℕ) → ℕ
limits s share = sum_of (map_with_index (limit_in share) s.queues)

-- "In each share the limits of live queues sum to at most 16."
unfoldable pub sound_limits : State → Bool
sound_limits s = every (λ i share. leb (limits s share) (share_limit share)) (numbers_from 0 share_count)

-- the slot of the queue that a position names
abbrev pub slot_in : Position → ℕ
slot_in p = pred p.queue

-- "A free buffer is all zero."
unfoldable pub free_buffer_rules : Buffer → List Bool
free_buffer_rules m = eqb m.position.rank 0 ∷ eqb m.message_length 0 ∷ all_zero m.reserved ∷ all_zero m.bytes ∷ []

-- "A used one belongs to a live queue of its own share, has length 1 to that queue's max size, bytes 3-7 zero, and zeros after its message."
-- Document 02 [1] overrules the 1: "a used buffer's length is 0 to the max size".
-- Buffer `b` belongs to the queue `q` in the slot.
unfoldable pub used_buffer_rules : Queue → (slot b : ℕ) → Buffer → List Bool
used_buffer_rules q slot b m =
    ltb slot slot_count
    ∷ is_live q
    ∷ eqb (share_of_slot slot) (share_of_buffer b)
    ∷ size_allowed q m.message_length
    ∷ all_zero m.reserved
    ∷ all_zero (drop m.message_length m.bytes)
    ∷ []

-- "0 owner queue (slot+1, 0 free)": the owner byte alone tells a free buffer from a used one.
unfoldable pub sound_buffer : State → ℕ → Buffer → Bool
sound_buffer s b m =
    let slot = slot_in m.position in
    if eqb m.position.queue 0 then all_true (free_buffer_rules m) else all_true (used_buffer_rules (queue_at s slot) slot b m)

-- "With PRIORITY, priorities never fall as ranks rise."
unfoldable pub by_priority : State → (slot : ℕ) → Bool
by_priority s slot =
    every
    (λ i a. in_queue slot a.position
    implies every
    (λ j b. (in_queue slot b.position && ltb a.position.rank b.position.rank) implies leb a.priority b.priority)
    s.tasks)
    s.tasks

-- "For each live queue, its buffers carry the ranks 0 to pending-1, each exactly once. Its waiting tasks carry 0 to waiters-1 likewise."
-- (A ready task is in no queue, as the last rule says.)
unfoldable pub sound_ranks : State → (slot : ℕ) → Queue → Bool
sound_ranks s slot q =
    all_true
    (ranked slot q.pending (map_with_index (λ b m. m.position) s.pool)
    ∷ ranked slot q.waiters (map_with_index (λ t w. w.position) s.tasks)
    ∷ (has_priority q implies by_priority s slot)
    ∷ [])

-- "A task's priority is at least 1; bytes 6-7 and 12-15 are zero."
unfoldable pub task_rules : Task → List Bool
task_rules w = leb 1 w.priority ∷ all_zero w.reserved ∷ all_zero w.reserved_after ∷ []

-- "[A] task's state [is] 0 or 1." "A ready task has queue, rank and ticks 0, status 0, 7 or 8, length at most 120."
unfoldable pub ready_task_rules : Task → List Bool
ready_task_rules w =
    eqb w.state ready_state
    ∷ eqb w.position.queue 0
    ∷ eqb w.position.rank 0
    ∷ eqb w.ticks_left 0
    ∷ (eqb w.status SUCCESSFUL || eqb w.status TIMEOUT || eqb w.status OBJECT-WAS-DELETED)
    ∷ leb w.message_length capacity
    ∷ []

-- "A waiting one names a live queue of its own share or an OPEN one, with status 14 and length 0."
-- Task `t` names the queue `q` in the slot.
unfoldable pub waiting_task_rules : Queue → (slot t : ℕ) → Task → List Bool
waiting_task_rules q slot t w =
    leb 1 w.position.queue
    ∷ ltb slot slot_count
    ∷ is_live q
    ∷ (eqb (share_of_slot slot) (share_of_task t) || is_open q)
    ∷ eqb w.status WAITING
    ∷ eqb w.message_length 0
    ∷ []

unfoldable pub sound_task : State → ℕ → Task → Bool
sound_task s t w =
    let slot = slot_in w.position in
    all_true (task_rules w) && (if is_waiting w then all_true (waiting_task_rules (queue_at s slot) slot t w) else all_true (ready_task_rules w))

unfoldable pub sound : State → Bool
sound s =
    all_true
    (every (λ slot q. sound_queue q) s.queues
    ∷ sound_limits s
    ∷ every (λ b m. sound_buffer s b m) s.pool
    ∷ every (λ slot q. is_live q implies sound_ranks s slot q) s.queues
    ∷ every (λ t w. sound_task s t w) s.tasks
    ∷ [])
