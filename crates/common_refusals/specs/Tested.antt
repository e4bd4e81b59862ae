-- The tests that every call makes first, by their verdict.
use Rattle.std.specs.Prelude.{ℕ, ◌≡◌, true, false, not, List, [], ◌∷◌, ◌++◌, Result}
use Rattle.records.specs.Bytes.{Tables, decode, right_lengths}
use Rattle.records.specs.Status.{CORRUPT, BAD-CALLER, BAD-SHAPE, verdict_status}
use Rattle.records.specs.declared.status.RefusalStatus.{RefusalStatus}
use Rattle.specification.specs.Answer.{Refusal, first_status, ◌⇒◌}
use Rattle.specification.specs.Sound.{sound}
use Rattle.specification.specs.Step.{bad_caller}

-- Tables and a caller that passed the tests 16, 10 and 11.
pub record Callable (t : Tables) (caller : ℕ) : Type 0 where
  pub lengths : right_lengths t ≡ true
  pub is_sound : sound (decode t) ≡ true
  pub ready : bad_caller (decode t) caller ≡ false

-- the tests of the tables
abbrev pub table_refusals : Tables → List Refusal
table_refusals t = (not (right_lengths t) ⇒ BAD-SHAPE) ∷ (not (sound (decode t)) ⇒ CORRUPT) ∷ []

-- "Order: 16, 10, 11, then as each directive lists."
abbrev pub call_refusals : Tables → (caller : ℕ) → List Refusal
call_refusals t caller = table_refusals t ++ (bad_caller (decode t) caller ⇒ BAD-CALLER) ∷ []

-- the tables' own tests, 16 and 10, gave the verdict
abbrev pub Tested : Tables → Result Unit RefusalStatus → Type 0
Tested t verdict = verdict_status verdict ≡ first_status (table_refusals t)

-- the tests 16, 10 and 11 gave it
abbrev pub CallTested : Tables → (caller : ℕ) → Result Unit RefusalStatus → Type 0
CallTested t caller verdict = verdict_status verdict ≡ first_status (call_refusals t caller)
