-- Document 01, "Status numbers": answers, and refusals in their order.
use Rattle.std.specs.Prelude.{ℕ, Bool, List, [], ◌∷◌, if◌then◌else◌}
use Rattle.records.specs.Status.{SUCCESSFUL}

-- "An answer is status, value (32 bits) and a woken mask, bit t for task t."
pub record Answer : Type 0 where
  pub status : ℕ
  pub value : ℕ
  pub woken : ℕ

-- an answer with what the call leaves: the tables, as records or as bytes, or a list of differences
pub record Outcome (S : Type 0) : Type 0 where
  pub answer : Answer
  pub after : S

abbrev pub outcome : {S : Type 0} → (status value woken : ℕ) → S → Outcome S
outcome status value woken s = record { answer = record { status = status; value = value; woken = woken }; after = s }

-- "Value and mask are 0 unless named below. All but 0 and 14 are refusals and change nothing."
abbrev pub refuse : {S : Type 0} → S → (status : ℕ) → Outcome S
refuse s status = outcome status 0 0 s

-- a reason to refuse, and the status that it gives
pub record Refusal : Type 0 where
  pub holds : Bool
  pub status : ℕ

infix 20 ◌⇒◌
abbrev pub ◌⇒◌ : Bool → ℕ → Refusal
◌⇒◌ holds status = record { holds = holds; status = status }

-- The first reason that holds gives the status; where none does, the effect.
unfoldable pub refuse_if_any : {S : Type 0} → S → List Refusal → Outcome S → Outcome S
refuse_if_any s [] effect = effect
refuse_if_any s (r ∷ rs) effect = if r.holds then refuse s r.status else refuse_if_any s rs effect

-- The status of the first reason that holds; SUCCESSFUL where none does.
unfoldable pub first_status : List Refusal → ℕ
first_status [] = SUCCESSFUL
first_status (r ∷ rs) = if r.holds then r.status else first_status rs
