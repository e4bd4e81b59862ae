-- `records::buffer::write_message` meets its contract. Assumes nothing.
use mathlib.Core.Path.{ap, ◌∙◌}
use Prim.Native.Nat.{◌*◌}
use Rattle.ranks.specs.Table.{spliced}
use Rattle.records.specs.Layout.{buffer_count, buffer_width}
use Rattle.records.specs.Bytes.{decode_buffer, encode_buffer}
use Rattle.records.specs.Changes.{message_buffer}
use Rattle.records.proofs.DecodeEncode.{decode-encode-buffer, length-buffer}
use Rattle.records.proofs.Writing
use Rattle.records.proofs.buffer.write_message.Goals as goal

pub returns : goal.returns
returns c =
    let a = c.args in
    let m = message_buffer a.position a.message.now in
    let fit = Writing.message-fits a.position a.message.now c.requires.1.1 in
    Writing.table-written decode_buffer buffer_count buffer_width a.pool.now c.copy_into.new.t (encode_buffer m) a.b m c.requires.1.0 c.requires.0 (length-buffer m fit) (decode-encode-buffer m fit)
    (c.copy_into.ensures ∙ ap (spliced a.pool.now (a.b * buffer_width)) c.encode_message.ensures)
