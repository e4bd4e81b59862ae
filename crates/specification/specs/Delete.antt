-- Document 01: "Delete".
use Rattle.std.specs.Prelude.{ℕ, List, [], ◌∷◌}
use Rattle.ranks.specs.Lists.{mask}
use Rattle.records.specs.Records.{State}
use Rattle.records.specs.Changes.{change_at, freed, ready_with}
use Rattle.records.specs.Status.{SUCCESSFUL, OBJECT-WAS-DELETED, ILLEGAL-ON-REMOTE-OBJECT}
use Rattle.specification.specs.Answer.{Outcome, outcome, Refusal, ◌⇒◌}
use Rattle.specification.specs.Lookup.{is_foreign, waiters_of, without_waiters, without_messages}

-- "2, 12"
unfoldable pub refusals : (caller slot : ℕ) → List Refusal
refusals caller slot = (is_foreign caller slot ⇒ ILLEGAL-ON-REMOTE-OBJECT) ∷ []

-- "Waiters become ready with status 8, in the mask; buffers are zeroed; the record is zeroed but for its generation."
unfoldable pub effect : State → (slot : ℕ) → Outcome State
effect s slot =
    outcome SUCCESSFUL 0 (mask (waiters_of slot s.tasks))
    (record {
      queues = change_at slot freed s.queues;
      pool = without_messages slot s.pool;
      tasks = without_waiters slot (ready_with OBJECT-WAS-DELETED) s.tasks;
    })
