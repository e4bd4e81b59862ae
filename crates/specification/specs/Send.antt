-- Document 01: "Send".
use Rattle.std.specs.Prelude.{ℕ, List}
use Rattle.records.specs.Records.{State, queue_at}
use Rattle.specification.specs.Answer.{Outcome, Refusal}
use Rattle.specification.specs.Submit

abbrev pub refusals : State → (slot : ℕ) (message : List ℕ) → List Refusal
refusals s slot message = Submit.refusals s slot message

-- "at the rear"
abbrev pub effect : State → (slot : ℕ) (message : List ℕ) → Outcome State
effect s slot message = Submit.effect s slot (queue_at s slot).pending message
