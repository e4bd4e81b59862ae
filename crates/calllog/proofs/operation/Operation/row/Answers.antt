-- `calllog::operation::Operation::row` meets its contract. Assumes nothing.
use denote.Enum.Declared.{tag_of}
use mathlib.Core.Path.{◌≡◌, refl, ap, ◌∙◌}
use Rattle.std.specs.Prelude.{ℕ, ◌+◌}
use Rattle.calllog.specs.contracts.operation.Operation.{the_type}
use Rattle.calllog.specs.declared.operation.Operation.{Operation}
use Rattle.calllog.specs.declared.operation.Operation.TheVariants.{Create, Ident, Delete, Send, Urgent, Broadcast, Receive, Pending, Flush, Tick}
use Rattle.calllog.specs.CallLog.{row_of}
use Rattle.calllog.specs.Operations.{number_of, row_with}
use Rattle.calllog.proofs.operation.Operation.row.Goals as goal

-- the number that an operation is cast to
cast_number : (o : Operation) → tag_of the_type o + 1 ≡ number_of o
cast_number Create = refl
cast_number Ident = refl
cast_number Delete = refl
cast_number Send = refl
cast_number Urgent = refl
cast_number Broadcast = refl
cast_number Receive = refl
cast_number Pending = refl
cast_number Flush = refl
cast_number Tick = refl

pub returns : goal.returns
returns c = c.row_of.ensures ∙ ap (λ (n : ℕ). row_with (row_of n)) (cast_number c.args.self)
