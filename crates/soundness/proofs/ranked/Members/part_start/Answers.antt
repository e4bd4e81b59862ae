-- `soundness::ranked::Members::part_start` meets its contract. Assumes nothing.
use Rattle.std.proofs.Common.{ℕ, ◌<◌, sym, subst}
use Rattle.records.specs.Split.{share_count}
use Rattle.records.proofs.Tabled.{slot-share-below}
use Rattle.soundness.proofs.ranked.Members.part_start.Goals as goal

pub first_buffer-requires : goal.first_buffer-requires
first_buffer-requires c = subst (λ (n : ℕ). n < share_count) (sym c.share_of_slot.ensures) (slot-share-below c.args.slot c.requires)
