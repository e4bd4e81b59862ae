-- `objects::slots::create_in` meets its contract. Assumes nothing.
use native.Mathlib.Numerals.{add-one}
use mathlib.Core.Path.{◌≡◌}
use Rattle.std.proofs.Common.{rules}
use Rattle.records.specs.Bytes.{decode_pool, decode_tasks, decode, decode_queue_at}
use Rattle.specification.specs.Create
use Rattle.specification.specs.Create.{new_queue}
use Rattle.objects.proofs.Written.{queue_changed}
use Rattle.objects.proofs.slots.create_in.Goals as goal

pub returns : goal.returns
unfolding decode Create.effect
returns c =
    let a = c.args in
    let made : c.live_with.result ≡ new_queue a.name a.limit a.max_size a.attributes (decode_queue_at a.slot a.queues.now) = search (rules, add-one) in
    let written = queue_changed a.queues.now _ a.slot c.requires.slot_below (new_queue a.name a.limit a.max_size a.attributes) c.live_with.result made c.write_queue.ensures in
    (search (rules, add-one), λ pool tasks i. record { queues = written i; pool = decode_pool pool; tasks = decode_tasks tasks })
