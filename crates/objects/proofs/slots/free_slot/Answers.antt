-- `objects::slots::free_slot` meets its contract. Assumes nothing.
use Rattle.std.proofs.Common.{rules, tests}
use Rattle.records.specs.Layout.{slot_count, queue_width}
use Rattle.records.specs.Records.{free_queue}
use Rattle.records.specs.Bytes.{decode_queue}
use Rattle.specification.specs.Create.{is_free_slot}
use Rattle.objects.proofs.Searches.{found-in}
use Rattle.objects.proofs.slots.free_slot.Goals as goal

pub returns : goal.returns
returns c = found-in decode_queue (free_queue 0) slot_count queue_width (is_free_slot c.args.share) c.args.queues.now _ _ _ c.find.ensures.ran (λ x b q k. search (rules, tests))
