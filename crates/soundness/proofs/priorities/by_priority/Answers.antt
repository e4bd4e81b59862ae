-- `soundness::priorities::by_priority` meets its contract. Assumes nothing.
use Rattle.std.proofs.Common.{rules, arith, ◌≡◌, ◌≤◌, length, sym}
use lib.Seq.{length-take-le}
use Rattle.std.proofs.lemmas.List.Sorted.{non_decreasing_from_is_sorted}
use Rattle.octets.specs.LittleEndian.{byte_values}
use Rattle.soundness.proofs.Orders.{ranks-fit, one-at-rank, order-sorted}
use Rattle.soundness.proofs.priorities.by_priority.Goals.{After-priorities_by_rank-by_rank}
use Rattle.soundness.proofs.priorities.by_priority.Goals as goal

long : (c : After-priorities_by_rank-by_rank) → c.args.n ≤ length c.priorities_by_rank-by_rank.result
long c =
    let all : length c.priorities_by_rank-by_rank.result ≡ byte_values = search rules in
    omega (arith, ranks-fit c.args.tasks.now c.args.slot c.args.n c.requires.1.1)

pub priorities_by_rank-by_rank-requires : goal.priorities_by_rank-by_rank-requires
priorities_by_rank-by_rank-requires c =
    (c.requires.0, (c.requires.1.0, one-at-rank c.args.tasks.now c.args.slot c.args.n c.requires.1.1))

pub slice_bounds-by_rank-end : goal.slice_bounds-by_rank-end
slice_bounds-by_rank-end c = omega (arith, long (goal.at.slice_bounds-by_rank-end c).After-priorities_by_rank-by_rank)

pub slice_bounds-is_sorted-end : goal.slice_bounds-is_sorted-end
slice_bounds-is_sorted-end c = sym (length-take-le _ _ (long (goal.at.slice_bounds-is_sorted-end c).After-priorities_by_rank-by_rank))

pub returns : goal.returns
returns c =
    let a = c.args in
    let by_rank = c.priorities_by_rank-by_rank in
    order-sorted a.tasks.now a.slot a.n c.requires.1.1 by_rank.result by_rank.ensures (long (goal.at.returns c).After-priorities_by_rank-by_rank) c.is_sorted.result
    (non_decreasing_from_is_sorted _ c.is_sorted.result c.is_sorted.ensures.cases)
