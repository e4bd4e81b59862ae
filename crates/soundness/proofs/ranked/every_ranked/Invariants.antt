-- `soundness::ranked::every_ranked` meets its contract. Assumes nothing.
use Prim.Native.Nat.{◌+◌, ◌-◌}
use Rattle.ranks.proofs.Searches.{AllBelow}
use Rattle.records.specs.Layout.{slot_count}
use Rattle.records.specs.Bytes.{decode_queues}
use Rattle.soundness.specs.Parts.{positions_in, queue_ranked}
use Rattle.soundness.proofs.Ranks.{Counted, RankedUpTo}
use Rattle.soundness.proofs.ranked.every_ranked.Given as goal

abbrev pub invariant-records : goal.invariant-records
invariant-records l =
    Counted (positions_in l.positions l.t) l.slot l.rank l.from (l.from + l.size) l.found (l.from + l.j)

abbrev pub decreases-records : goal.decreases-records
decreases-records l =
    l.size - l.j

abbrev pub invariant-ranks : goal.invariant-ranks
invariant-ranks l =
    RankedUpTo (positions_in l.positions l.t) l.slot l.n l.good l.rank

abbrev pub decreases-ranks : goal.decreases-ranks
decreases-ranks l =
    l.n - l.rank

abbrev pub invariant-search : goal.invariant-search
invariant-search l =
    AllBelow (queue_ranked l.members (positions_in l.positions l.t)) (decode_queues l.queues) slot_count l.good l.slot

abbrev pub decreases-search : goal.decreases-search
decreases-search l =
    slot_count - l.slot
