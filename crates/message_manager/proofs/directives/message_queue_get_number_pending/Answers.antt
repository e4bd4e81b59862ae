-- `message_manager::directives::message_queue_get_number_pending` meets its contract. Assumes nothing.
use Rattle.std.proofs.Common.{rules}
use Rattle.message_manager.specs.Interface.{call_number, operation_number}
use Rattle.message_manager.proofs.Laws.{into_buffer}
use Rattle.message_manager.proofs.directives.message_queue_get_number_pending.Goals as goal

pub returns : goal.returns
unfolding call_number operation_number
returns c = into_buffer _ c.answered.ensures.made c.answered.ensures.not_made (λ a s. search rules) (λ e. search rules)
