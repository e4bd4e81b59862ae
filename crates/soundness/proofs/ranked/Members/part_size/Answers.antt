-- `soundness::ranked::Members::part_size` meets its contract. Assumes nothing.
use Rattle.std.proofs.Common.{ℕ, ◌<◌, sym, subst}
use Rattle.records.specs.Split.{share_count}
use Rattle.records.proofs.Tabled.{slot-share-below}
use Rattle.soundness.proofs.ranked.Members.part_size.Goals as goal

pub share_limit-requires : goal.share_limit-requires
share_limit-requires c = subst (λ (n : ℕ). n < share_count) (sym c.share_of_slot.ensures) (slot-share-below c.args.slot c.requires)
