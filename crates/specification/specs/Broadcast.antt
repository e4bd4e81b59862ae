-- Document 01: "Broadcast".
use Rattle.std.specs.Prelude.{ℕ, not, List, [], ◌∷◌}
use Rattle.ranks.specs.Lists.{count_true, mask}
use Rattle.records.specs.Records.{Queue, State, size_allowed}
use Rattle.records.specs.Changes.{change_at, with_waiters, with_message}
use Rattle.records.specs.Status.{SUCCESSFUL, INVALID-ID, INVALID-SIZE}
use Rattle.specification.specs.Answer.{Outcome, outcome, Refusal, ◌⇒◌}
use Rattle.specification.specs.Lookup.{usable_queue, waiters_of, without_waiters}
use Rattle.specification.specs.Submit.{bad_size}

-- "2, 3". Document 02 [1]: "Size 0 is now good for send, urgent and broadcast".
unfoldable pub refusals : State → (slot : ℕ) (message : List ℕ) → List Refusal
refusals s slot message = (bad_size s slot message ⇒ INVALID-SIZE) ∷ []

-- "Every waiter gets the message; nothing is ever queued. Value: the number of tasks unblocked, which is the ones in the mask."
unfoldable pub effect : State → (slot : ℕ) (message : List ℕ) → Outcome State
effect s slot message =
    outcome SUCCESSFUL (count_true (waiters_of slot s.tasks)) (mask (waiters_of slot s.tasks))
    (record {
      queues = change_at slot (with_waiters 0) s.queues;
      pool = s.pool;
      tasks = without_waiters slot (with_message message) s.tasks;
    })

-- ---- For the code: the tests by the queue record read
abbrev pub broadcast_tests : Queue → (caller id size : ℕ) → List Refusal
broadcast_tests q caller id size = (not (usable_queue q caller id) ⇒ INVALID-ID) ∷ (not (size_allowed q size) ⇒ INVALID-SIZE) ∷ []
