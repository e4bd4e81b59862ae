-- `image_compare::print_arguments`. Assumes nothing.
use Rattle.std.proofs.Common.{arith}
use Rattle.image_compare.specs.Arguments.{files}
use Rattle.image_compare.proofs.print_arguments.Goals as goal

pub returns : goal.returns
returns c = files (omega arith) c.argument-first.ensures c.argument-second.ensures c.print_files.ensures
