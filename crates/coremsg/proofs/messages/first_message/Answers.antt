-- `coremsg::messages::first_message` meets its contract. Assumes nothing.
use mathlib.Core.Path.{refl, ap, ◌∙◌}
use Rattle.ranks.specs.Lists.{found_below}
use Rattle.records.specs.Layout.{buffer_count, buffer_position, buffer_width}
use Rattle.records.specs.Records.{free_buffer}
use Rattle.records.specs.Bytes.{decode_buffer}
use Rattle.objects.proofs.Searches.{first-decoded}
use Rattle.coremsg.proofs.messages.first_message.Goals as goal

pub returns : goal.returns
unfolding decode_buffer
returns c =
    let a = c.args in
    c.first.ensures ∙ ap (found_below buffer_count) (first-decoded decode_buffer (λ m. m.position) buffer_position buffer_count buffer_width a.slot a.pool.now free_buffer (λ r. refl))
