-- `soundness::queues::limits_sound` meets its contract. Assumes nothing.
use Rattle.std.proofs.Common.{rules}
use lib.Dec.{leb}
use Rattle.records.specs.Split.{share_limit, share_count}
use Rattle.specification.specs.Sound.{limits, sound_limits}
use Rattle.soundness.specs.Parts.{only_queues}
use Rattle.soundness.proofs.EachRecord.{every-number}
use Rattle.soundness.proofs.queues.limits_sound.Goals as goal

pub returns : goal.returns
unfolding sound_limits
returns c = every-number (λ share. leb (limits (only_queues c.args.queues.now) share) (share_limit share)) share_count _ _ _ c.all.ensures.ran (λ i b q k. search rules)
