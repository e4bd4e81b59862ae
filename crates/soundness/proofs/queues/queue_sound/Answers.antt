-- `soundness::queues::queue_sound` meets its contract. Assumes nothing.
use mathlib.Core.Path.{sym, ◌∙◌}
use Rattle.soundness.proofs.Cases.{sound-live, sound-free}
use Rattle.soundness.proofs.queues.queue_sound.Goals as goal

pub returns-then-is_live : goal.returns-then-is_live
returns-then-is_live c = c.live_queue_sound.ensures ∙ sound-live c.args.q (sym c.is_live.ensures ∙ c.if-is_live.true)

pub returns-else-is_live : goal.returns-else-is_live
returns-else-is_live c = c.free_queue_sound.ensures ∙ sound-free c.args.q (sym c.is_live.ensures ∙ c.if-is_live.false)
