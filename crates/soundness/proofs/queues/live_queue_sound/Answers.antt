-- `soundness::queues::live_queue_sound` meets its contract. Assumes nothing.
use Rattle.specification.specs.Sound.{live_queue_rules}
use Rattle.soundness.proofs.Cases.{eight}
use Rattle.soundness.proofs.queues.live_queue_sound.Goals as goal

pub returns : goal.returns
unfolding live_queue_rules
returns c =
    rw (c.attributes_allowed.ensures, c.limit_allowed.ensures, c.max_size_allowed.ensures, c.reserved_zero.ensures, c.from.ensures, c.from-2.ensures, c.from-3.ensures)
    (eight _ _ _ _ _ _ _ _)
