-- Document 01: "Pending".
use Rattle.std.specs.Prelude.{ℕ}
use Rattle.records.specs.Records.{State, queue_at}
use Rattle.records.specs.Status.{SUCCESSFUL}
use Rattle.specification.specs.Answer.{Outcome, outcome}

-- "2. Value: messages held."
unfoldable pub effect : State → (slot : ℕ) → Outcome State
effect s slot = outcome SUCCESSFUL (queue_at s slot).pending 0 s
