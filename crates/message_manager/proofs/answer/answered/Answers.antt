-- `message_manager::answer::answered` meets its contract. Assumes nothing.
use Rattle.std.proofs.Common.{ap, ◌∙◌}
use Rattle.ranks.specs.Table.{byte}
use Rattle.calllog.specs.CallLog.{answer_bytes}
use Rattle.message_manager.proofs.answer.answered.Goals as goal

pub returns-clause-made : goal.returns-clause-made
unfolding answer_bytes
returns-clause-made g c h =
    (c.call.result, (c.call.ensures, (c.answer_record.ensures, c.from-2.ensures ∙ ap (byte 0) c.answer_record.ensures)))
