-- `soundness::buffers::used_buffer_sound` meets its contract. Assumes nothing.
use Prim.Native.Nat.{ℕ, ◌+◌}
use mathlib.Core.Path.{ap, ◌∙◌}
use lib.Dec.{eqb}
use lib.ListN.{drop}
use Rattle.records.specs.Layout.{buffer_data}
use Rattle.ranks.specs.Lists.{all_zero}
use Rattle.ranks.specs.Table.{byte}
use Rattle.records.specs.Split.{share_of_buffer}
use Rattle.records.specs.Records.{size_allowed}
use Rattle.records.specs.Bytes.{decode_buffer}
use Rattle.soundness.proofs.Searched.{after-message}
use Rattle.soundness.proofs.Cases.{used-tests}
use Rattle.soundness.proofs.buffers.used_buffer_sound.Goals as goal

pub returns : goal.returns
unfolding decode_buffer
returns c =
    let r = c.args.r.now in
    used-tests c.args.q c.args.slot c.args.b (decode_buffer r) c.requires.0 c.is_live.ensures
    (c.owns_buffer.ensures ∙ ap (λ (p : ℕ). eqb p (share_of_buffer c.args.b)) c.share_of_slot.ensures)
    (c.size_allowed.ensures ∙ ap (size_allowed c.args.q) c.from-n.ensures)
    c.zeros_at.ensures
    (c.zeros_from.ensures ∙ ap (λ (m : ℕ). all_zero (drop (buffer_data + m) r)) c.from-n.ensures ∙ after-message r c.requires.1.1 (byte 2 r))
