-- `message_manager::logs::message_manager_call` meets its contract. Assumes nothing.
use Rattle.std.proofs.Common.{rules}
use Rattle.message_manager.proofs.Laws.{into_buffer}
use Rattle.message_manager.proofs.logs.message_manager_call.Goals as goal

pub returns : goal.returns
returns c = rw (← c.first_byte.ensures) (into_buffer _ c.answered.ensures.made c.answered.ensures.not_made (λ a s. search rules) (λ e. search rules))
