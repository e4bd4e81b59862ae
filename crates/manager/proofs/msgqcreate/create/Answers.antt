-- `manager::msgqcreate::create` meets its contract. Assumes nothing.
use Rattle.std.proofs.Common.{arith}
use Rattle.ranks.specs.Lists.{found_below}
use Rattle.specification.specs.Answer.{first_status}
use Rattle.manager.proofs.Called.{written}
use Rattle.manager.proofs.Directives.{create_tests, create_done}
use Rattle.manager.proofs.msgqcreate.create.Goals as goal

pub returns : goal.returns
unfolding first_status found_below
returns c = grind (arith, written, create_tests, create_done)
