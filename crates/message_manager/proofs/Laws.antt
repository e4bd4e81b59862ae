-- The answer buffer: what is written into it, and what a function of the C interface returns. Assumes nothing.
use Rattle.std.proofs.Common.{ℕ, ◌≡◌, ◌≢◌, List, length, refl}
use mathlib.Core.Logic.{inl, inr}
use borrow.Author.Tests.{eq-eqb, ne_eqb}
use Rattle.ranks.proofs.Tests.{same?}
use Rattle.records.specs.Bytes.{Tables}
use Rattle.records.specs.Status.{BAD-SHAPE}
use Rattle.specification.specs.Answer.{Outcome}
use Rattle.calllog.specs.CallLog.{answer_width}
use Rattle.logged_calls.specs.LoggedCall.{answer_record}
use Rattle.manager.specs.Outcomes.{CodeAnswer, answer_of, outcome_of}
use Rattle.message_manager.specs.Interface.{answered_into}

-- The call was made, its answer record is written and its status returned; or the buffer has another length, and nothing was done.
pub into_buffer : {lent written : List ℕ} {t after : Tables} (first_byte : ℕ) {status : ℕ} {o : Outcome Tables} {Made : CodeAnswer → Type 0} {Kept : Type 0}
    → (length lent ≡ answer_width → (a : CodeAnswer) × (Made a × ((written ≡ answer_record (answer_of a) first_byte) × (status ≡ (answer_of a).status))))
    → (length lent ≢ answer_width → Kept × ((written ≡ lent) × (status ≡ BAD-SHAPE)))
    → ((a : CodeAnswer) → Made a → outcome_of a after ≡ o) → (Kept → after ≡ t)
    → (record { status = status; answer = written; after = after }) ≡ answered_into lent t first_byte o
unfolding answered_into
into_buffer {lent} {written} {t} {after} first_byte {status} {o} made not_made tells keeps =
    elim (same? (length lent) answer_width) [
      | inl h ↦ let m = made h in rw (eq-eqb (length lent) answer_width h, m.1.1.0, m.1.1.1, ← tells m.0 m.1.0) refl
      | inr h ↦ let n = not_made h in rw (ne_eqb (length lent) answer_width h, n.1.0, n.1.1, keeps n.0) refl
    ]
