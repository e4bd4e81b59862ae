-- `soundness::queues::queues_sound` meets its contract. Assumes nothing.
use Rattle.std.proofs.Common.{rules}
use Rattle.records.specs.Layout.{slot_count, queue_width}
use Rattle.records.specs.Records.{free_queue}
use Rattle.records.specs.Bytes.{decode_queue}
use Rattle.specification.specs.Sound.{sound_queue}
use Rattle.soundness.proofs.EachRecord.{every-record}
use Rattle.soundness.proofs.queues.queues_sound.Goals as goal

pub returns : goal.returns
returns c =
    every-record (λ slot q. sound_queue q) decode_queue slot_count queue_width c.args.queues.now (free_queue 0) _ _ _ c.all.ensures.ran (λ i b q k. search rules)
