-- Document 01: "urgent".
use Rattle.std.specs.Prelude.{ℕ, List}
use Rattle.records.specs.Records.{State}
use Rattle.specification.specs.Answer.{Outcome, Refusal}
use Rattle.specification.specs.Submit

abbrev pub refusals : State → (slot : ℕ) (message : List ℕ) → List Refusal
refusals s slot message = Submit.refusals s slot message

-- "at rank 0"
abbrev pub effect : State → (slot : ℕ) (message : List ℕ) → Outcome State
effect s slot message = Submit.effect s slot 0 message
