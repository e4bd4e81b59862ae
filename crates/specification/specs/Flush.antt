-- Document 01: "Flush".
use Rattle.std.specs.Prelude.{ℕ, List, [], ◌∷◌}
use Rattle.records.specs.Records.{State, queue_at}
use Rattle.records.specs.Changes.{change_at, with_pending}
use Rattle.records.specs.Status.{SUCCESSFUL, ILLEGAL-ON-REMOTE-OBJECT}
use Rattle.specification.specs.Answer.{Outcome, outcome, Refusal, ◌⇒◌}
use Rattle.specification.specs.Lookup.{is_foreign, without_messages}

-- "2, 12"
unfoldable pub refusals : (caller slot : ℕ) → List Refusal
refusals caller slot = (is_foreign caller slot ⇒ ILLEGAL-ON-REMOTE-OBJECT) ∷ []

-- "Value: messages removed."
unfoldable pub effect : State → (slot : ℕ) → Outcome State
effect s slot =
    outcome SUCCESSFUL (queue_at s slot).pending 0
    (record { queues = change_at slot (with_pending 0) s.queues; pool = without_messages slot s.pool; tasks = s.tasks })
