-- Document 01: "Receive (option 0 wait, 1 no wait; ticks)".
use Rattle.std.specs.Prelude.{ℕ, suc, ◌-◌, ◌&&◌, not, List, [], ◌∷◌, eqb, leb, ltb, if◌then◌else◌}
use Rattle.ranks.specs.Lists.{map_with_index, minimum}
use Rattle.ranks.specs.Position.{position_at, in_queue}
use Rattle.records.specs.Layout.{buffer_count}
use Rattle.records.specs.Records.{Queue, Task, State, has_priority, message_in, free_buffer, queue_at, buffer_at, task_at}
use Rattle.records.specs.Changes.{change_at, with_pending, with_waiters, with_message, waiting_at, take_out_buffer, insert_task}
use Rattle.records.specs.Status.{SUCCESSFUL, INVALID-ID, UNSATISFIED, WAITING, INVALID-OPTION}
use Rattle.specification.specs.Answer.{Outcome, outcome, Refusal, ◌⇒◌}
use Rattle.specification.specs.Lookup.{usable_queue, first_message, has_message}

-- "2, 15 (option above 1). With a message pending [...]. Else option 1 gives 6."
unfoldable pub refusals : State → (slot option : ℕ) → List Refusal
refusals s slot option = (ltb 1 option ⇒ INVALID-OPTION) ∷ (not (has_message s slot) && eqb option 1 ⇒ UNSATISFIED) ∷ []

-- "rank 0 is copied to the caller's record with status 0 and its length, and its buffer zeroed; value is the length"
unfoldable pub received : State → (caller slot b : ℕ) → Outcome State
received s caller slot b =
    let m = buffer_at s b in
    outcome SUCCESSFUL m.message_length 0
    (record {
      queues = change_at slot (λ q. with_pending (q.pending - 1) q) s.queues;
      pool = take_out_buffer b slot 0 (λ _. free_buffer) s.pool;
      tasks = change_at caller (with_message (message_in m)) s.tasks;
    })

-- the rank of a task that waits in the queue of the slot and is less urgent than the priority, else the rear
abbrev pub rank_behind : (slot priority rear : ℕ) → Task → ℕ
rank_behind slot priority rear w = if in_queue slot w.position && ltb priority w.priority then w.position.rank else rear

-- the least such rank of the tasks, or the rear
abbrev pub priority_rank : (slot priority rear : ℕ) → List Task → ℕ
priority_rank slot priority rear tasks = minimum rear (map_with_index (λ j w. rank_behind slot priority rear w) tasks)

-- "at the rear, or with PRIORITY behind all of equal or smaller number", in the queue `q` of the slot
abbrev pub rank_for : Queue → (slot priority : ℕ) → List Task → ℕ
rank_for q slot priority tasks = if has_priority q then priority_rank slot priority q.waiters tasks else q.waiters

unfoldable pub wait_rank : State → (caller slot : ℕ) → ℕ
wait_rank s caller slot = rank_for (queue_at s slot) slot (task_at s caller).priority s.tasks

-- "Else the caller waits, status 14, length 0, ticks left as given"
unfoldable pub waiting : State → (caller slot rank ticks : ℕ) → Outcome State
waiting s caller slot rank ticks =
    outcome WAITING 0 0
    (record {
      queues = change_at slot (λ q. with_waiters (suc q.waiters) q) s.queues;
      pool = s.pool;
      tasks = insert_task caller slot rank (waiting_at (position_at slot rank) ticks) s.tasks;
    })

unfoldable pub effect : State → (caller slot ticks : ℕ) → Outcome State
effect s caller slot ticks =
    if has_message s slot then received s caller slot (first_message s slot) else waiting s caller slot (wait_rank s caller slot) ticks

-- ---- For the code: the tests by the queue record read, where the message at rank 0 is in buffer `b`
abbrev pub receive_tests : Queue → (caller id option b : ℕ) → List Refusal
receive_tests q caller id option b =
    (not (usable_queue q caller id) ⇒ INVALID-ID) ∷ (ltb 1 option ⇒ INVALID-OPTION) ∷ (leb buffer_count b && eqb option 1 ⇒ UNSATISFIED) ∷ []
