-- What send and urgent share. Document 01: "2, 3 (size 0 or above max), then the waiter at rank 0 if any [...]. Else 5 if full, 13, else the
-- lowest free buffer of the owner's share". Document 02 [1] overrules "size 0": "Size 0 is now good for send, urgent and broadcast".
use Rattle.std.specs.Prelude.{ℕ, suc, Bool, ◌&&◌, not, List, [], ◌∷◌, length, eqb, leb, if◌then◌else◌}
use Rattle.ranks.specs.Lists.{map_with_index, find_index, mask}
use Rattle.ranks.specs.Position.{position_at}
use Rattle.records.specs.Split.{share_of_slot, share_of_buffer}
use Rattle.records.specs.Layout.{buffer_count, task_count}
use Rattle.records.specs.Records.{Queue, Buffer, State, size_allowed, is_full, queue_at}
use Rattle.records.specs.Changes.{change_at, with_pending, message_buffer, with_message, insert_buffer}
use Rattle.records.specs.Status.{SUCCESSFUL, INVALID-ID, INVALID-SIZE, TOO-MANY, NO-BUFFER}
use Rattle.specification.specs.Answer.{Outcome, outcome, Refusal, ◌⇒◌}
use Rattle.specification.specs.Lookup.{usable_queue, first_waiter, has_waiter, leave}

-- "a message's size is the length of the bytes lent"
abbrev pub bad_size : State → (slot : ℕ) (message : List ℕ) → Bool
bad_size s slot message = not (size_allowed (queue_at s slot) (length message))

-- buffer `b` is free, which its owner byte alone tells ("0 free"), and of the share
abbrev pub is_free_of : (share b : ℕ) → Buffer → Bool
is_free_of share b m = eqb m.position.queue 0 && eqb (share_of_buffer b) share

-- "the lowest free buffer of the owner's share", or 64
unfoldable pub free_buffer_of : State → (share : ℕ) → ℕ
free_buffer_of s share = find_index (is_free_of share) s.pool

-- "2, 3 ([...] above max), then the waiter at rank 0 if any [...]. Else 5 if full, 13"
unfoldable pub refusals : State → (slot : ℕ) (message : List ℕ) → List Refusal
refusals s slot message =
    (bad_size s slot message ⇒ INVALID-SIZE)
    ∷ (not (has_waiter s slot) && is_full (queue_at s slot) ⇒ TOO-MANY)
    ∷ (not (has_waiter s slot) && leb buffer_count (free_buffer_of s (share_of_slot slot)) ⇒ NO-BUFFER)
    ∷ []

-- Waiter `t`: "message copied, status 0, length set, woken".
unfoldable pub delivered : State → (t slot : ℕ) (message : List ℕ) → Outcome State
delivered s t slot message =
    outcome SUCCESSFUL 0 (mask (map_with_index (λ j w. eqb j t) s.tasks)) (leave s t slot 0 (with_message message))

-- The message is put into buffer `b`, at a rank of the queue.
unfoldable pub enqueued : State → (b slot rank : ℕ) (message : List ℕ) → Outcome State
enqueued s b slot rank message =
    outcome SUCCESSFUL 0 0
    (record {
      queues = change_at slot (λ q. with_pending (suc q.pending) q) s.queues;
      pool = insert_buffer b slot rank (λ _. message_buffer (position_at slot rank) message) s.pool;
      tasks = s.tasks;
    })

unfoldable pub effect : State → (slot rank : ℕ) (message : List ℕ) → Outcome State
effect s slot rank message =
    if has_waiter s slot
    then delivered s (first_waiter s slot) slot message
    else enqueued s (free_buffer_of s (share_of_slot slot)) slot rank message

-- ---- For the code: the tests by the queue record read, where task `t` is the first waiter and `b` the buffer that would be used
abbrev pub submit_tests : Queue → (caller id size t b : ℕ) → List Refusal
submit_tests q caller id size t b =
    (not (usable_queue q caller id) ⇒ INVALID-ID)
    ∷ (not (size_allowed q size) ⇒ INVALID-SIZE)
    ∷ (leb task_count t && is_full q ⇒ TOO-MANY)
    ∷ (leb task_count t && leb buffer_count b ⇒ NO-BUFFER)
    ∷ []
