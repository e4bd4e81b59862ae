-- `records::buffer::clear_buffer` meets its contract. Assumes nothing.
use Rattle.std.proofs.Common.{rules}
use mathlib.Core.Path.{◌≡◌, ap, ◌∙◌}
use lib.ListN.{replicate}
use Rattle.records.specs.Layout.{buffer_count, buffer_width}
use Rattle.records.specs.Records.{free_buffer}
use Rattle.records.specs.Bytes.{decode_buffer}
use Rattle.records.proofs.Writing
use Rattle.records.proofs.buffer.clear_buffer.Goals as goal

pub returns : goal.returns
returns c =
    let a = c.args in
    let zeros : c.fill.new.self ≡ replicate buffer_width 0 = Writing.record-filled buffer_count buffer_width a.pool.now c.fill.new.self a.b 0 c.requires.0 c.requires.1 (c.fill.ensures.after (λ y same. search rules)) in
    Writing.record-lent decode_buffer buffer_count buffer_width free_buffer a.pool.now c.fill.new.self a.b (λ _. free_buffer) c.requires.0 c.requires.1 c.fill.ensures.len (ap decode_buffer zeros ∙ Writing.zeros-free)
