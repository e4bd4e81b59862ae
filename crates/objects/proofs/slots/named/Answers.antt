-- `objects::slots::named` meets its contract. Assumes nothing.
use Rattle.std.proofs.Common.{rules, tests}
use Rattle.records.specs.Layout.{slot_count, queue_width}
use Rattle.records.specs.Records.{free_queue}
use Rattle.records.specs.Bytes.{decode_queue}
use Rattle.specification.specs.Ident.{is_named}
use Rattle.objects.proofs.Searches.{found-in}
use Rattle.objects.proofs.slots.named.Goals as goal

pub returns : goal.returns
returns c = found-in decode_queue (free_queue 0) slot_count queue_width (is_named c.args.caller c.args.name c.args.share) c.args.queues.now _ _ _ c.find.ensures.ran (λ x b q k. search (rules, tests))
