-- The code's answers by the paper's numbers, and what the code of a directive promises.
use Rattle.std.specs.Prelude.{ℕ, Result, Ok, Err}
use Rattle.records.specs.Bytes.{Tables, decode}
use Rattle.records.specs.Status.{SUCCESSFUL, WAITING, status_number}
use Rattle.specification.specs.Answer.{Answer, Outcome, refuse_if_any}
use Rattle.specification.specs.Call.{Directive, call}
use Rattle.specification.specs.Step.{directive_refusals, effect, encoded}
use Rattle.records.specs.declared.status.RefusalStatus.{RefusalStatus}
use Rattle.manager.specs.declared.answer.Completion.{Completion}
use Rattle.manager.specs.declared.answer.Completion.TheVariants.{Successful, Waiting}

-- what a function of the code answers
abbrev pub CodeAnswer : Type 0
CodeAnswer = Result Completion RefusalStatus

-- an answer of the code, with the paper's number for each status
unfoldable pub answer_of : CodeAnswer → Answer
answer_of (Ok (Successful value woken)) = record { status = SUCCESSFUL; value = value; woken = woken }
answer_of (Ok Waiting) = record { status = WAITING; value = 0; woken = 0 }
answer_of (Err status) = record { status = status_number status; value = 0; woken = 0 }

-- what the code answered, and the tables that it left
abbrev pub outcome_of : CodeAnswer → Tables → Outcome Tables
outcome_of a t = record { answer = answer_of a; after = t }

-- The outcome of a call that passed the tests 16, 10 and 11.
abbrev pub accepted : Tables → (caller : ℕ) → Directive → Outcome Tables
accepted t caller directive = refuse_if_any t (directive_refusals (decode t) caller directive) (encoded (effect (decode t) (call caller directive)))
