-- `calllog::operation::row_of` meets its contract. Assumes nothing.
use Rattle.std.proofs.Common.{rules}
use Rattle.calllog.specs.CallLog.{rows, names}
use Rattle.calllog.proofs.Laws.{row_at, row-beyond}
use Rattle.calllog.proofs.operation.row_of.Goals as goal

pub returns-then-operation-lt11 : goal.returns-then-operation-lt11
unfolding rows names
returns-then-operation-lt11 c = row_at c.args.operation

pub returns : goal.returns
unfolding names
returns c = row-beyond c.args.operation (search rules)
