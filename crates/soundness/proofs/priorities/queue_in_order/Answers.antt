-- `soundness::priorities::queue_in_order` meets its contract. Assumes nothing.
use Prim.Native.Nat.{ℕ}
use mathlib.Core.Path.{◌≡◌, sym, ap, subst, ◌∙◌}
use mathlib.Core.Bool.{Bool, true}
use Rattle.ranks.specs.Steps.{ranked}
use Rattle.records.specs.Records.{Queue}
use Rattle.soundness.specs.declared.ranked.Members.TheVariants.{Waiters}
use Rattle.soundness.specs.Parts.{only_tasks, task_positions, queue_ranked, queue_in_order}
use Rattle.soundness.proofs.Orders.{order-skipped, waiters-ranks, order-tested}
use Rattle.soundness.proofs.priorities.queue_in_order.Goals.{After-read_queue-q, Start}
use Rattle.soundness.proofs.priorities.queue_in_order.Goals as goal

-- what is known of the queue's record
abbrev In-order : Start → Queue → Bool
In-order s q = queue_in_order (only_tasks s.args.tasks.now) s.args.slot q

ranks : (c : After-read_queue-q) → queue_ranked Waiters (task_positions c.args.tasks.now) c.args.slot c.read_queue-q.result ≡ true
ranks c = subst (λ (q : Queue). queue_ranked Waiters (task_positions c.args.tasks.now) c.args.slot q ≡ true) (sym c.read_queue-q.ensures) c.requires.1.1.1

pub returns-then-q-is_live : goal.returns-then-q-is_live
returns-then-q-is_live c =
    let at = goal.at.returns-then-q-is_live c in
    order-skipped c.args.tasks.now c.args.slot c.read_queue-q.result c.is_live.ensures c.has_priority.ensures (ranks at.After-read_queue-q) c.if-q-is_live.true
    ∙ ap (In-order at.Start) c.read_queue-q.ensures

pub by_priority-requires : goal.by_priority-requires
by_priority-requires c =
    let t = c.args.tasks.now in
    let is = waiters-ranks t c.args.slot c.read_queue-q.result c.is_live.ensures c.has_priority.ensures (ranks (goal.at.by_priority-requires c).After-read_queue-q) c.if-q-is_live.false in
    (c.requires.1.0, (c.requires.1.1.0, subst (λ (n : ℕ). ranked c.args.slot n (task_positions t) ≡ true) (sym c.from.ensures) is))

pub returns : goal.returns
returns c =
    let at = goal.at.returns c in
    c.by_priority.ensures
    ∙ order-tested c.args.tasks.now c.args.slot c.read_queue-q.result c.is_live.ensures c.has_priority.ensures (ranks at.After-read_queue-q) c.if-q-is_live.false
    ∙ ap (In-order at.Start) c.read_queue-q.ensures
