-- `soundness::buffers::buffer_sound` meets its contract. Assumes nothing.
use Prim.Native.Nat.{◌-◌}
use native.Mathlib.Omega.{arith}
use mathlib.Core.Path.{sym, ap, ◌∙◌}
use Rattle.records.specs.Layout.{slot_count, queue_width}
use Rattle.records.specs.Records.{Queue, free_queue}
use Rattle.records.specs.Bytes.{decode_queue, decode_buffer}
use Rattle.records.proofs.Writing.{at_table}
use Rattle.soundness.specs.Parts.{only_queues, used_buffer_tests}
use Rattle.soundness.proofs.Cases.{buffer-free, buffer-beyond, buffer-used}
use Rattle.soundness.proofs.buffers.buffer_sound.Goals as goal

pub returns-in-0 : goal.returns-in-0
unfolding decode_buffer
returns-in-0 c =
    let a = c.args in
    c.free_buffer_sound.ensures ∙ buffer-free (only_queues a.queues.now) a.b (decode_buffer a.r.now) (omega arith)

pub returns-in-1-to-16 : goal.returns-in-1-to-16
unfolding decode_buffer
returns-in-1-to-16 c =
    let a = c.args in
    let slot = c.from.result - 1 in
    c.used_buffer_sound.ensures
    ∙ ap (λ (q : Queue). used_buffer_tests q slot a.b (decode_buffer a.r.now))
    (c.read_queue.ensures ∙ sym (at_table decode_queue slot_count queue_width a.queues.now slot (omega arith) (free_queue 0)))
    ∙ buffer-used (only_queues a.queues.now) a.b (decode_buffer a.r.now) slot (omega arith)

pub returns-in_default : goal.returns-in_default
unfolding decode_buffer
returns-in_default c =
    let a = c.args in
    buffer-beyond (only_queues a.queues.now) a.b (decode_buffer a.r.now) (c.from.result - 1) (omega arith) (omega arith)
