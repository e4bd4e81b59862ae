-- Send and urgent as one operation, by the type of what is submitted.
use Rattle.std.specs.Prelude.{ℕ, List}
use Rattle.records.specs.Records.{Queue}
use Rattle.specification.specs.Call.{Operation, send, urgent}
use Rattle.manager.specs.declared.msgqsubmit.SubmitType.{SubmitType}
use Rattle.manager.specs.declared.msgqsubmit.SubmitType.TheVariants.{Urgent, Send}

abbrev pub submit_operation : SubmitType → (message : List ℕ) → Operation
submit_operation Send message = send message
submit_operation Urgent message = urgent message

-- the rank that the message gets
abbrev pub rank_at : SubmitType → Queue → ℕ
rank_at Send q = q.pending
rank_at Urgent q = 0
