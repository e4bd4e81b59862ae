-- `records::buffer::encode_message` meets its contract. Assumes nothing.
use mathlib.Core.Path.{◌∙◌}
use Rattle.records.proofs.Writing
use Rattle.records.proofs.buffer.encode_message.Goals as goal

pub returns : goal.returns
returns c = c.copy_into.ensures ∙ Writing.message-record c.args.position c.args.message.now
