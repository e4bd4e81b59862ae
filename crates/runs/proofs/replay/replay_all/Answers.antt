-- `runs::replay::replay_all` meets its contract. Assumes nothing.
use native.Mathlib.Omega.{arith}
use mathlib.Core.Path.{sym, ap, ◌∙◌}
use lib.ListN.{length}
use Rattle.ranks.specs.Table.{slice}
use Rattle.records.specs.Bytes.{tables}
use Rattle.specification.specs.Answer.{first_status}
use Rattle.common_refusals.specs.Tested.{table_refusals}
use Rattle.calllog.specs.CallLog.{record_width}
use Rattle.runs.specs.Replay.{Replayed}
use Rattle.runs.proofs.Replays.{Found, found_by, some-byte, record-replayed, one-more-replayed, all-replayed, room-for-one}
use Rattle.runs.proofs.TableStatus.{sliced, verdict-stays}
use Rattle.runs.proofs.replay.replay_all.Goals.{In-Some}
use Rattle.runs.proofs.replay.replay_all.Goals as goal

-- in the loop's body: what the reader found at its place
found : (b : In-Some) → Found b.args.log.now b.loop-found.found-iterator.at b.in-Some.found.bytes.now b.in-Some.found.result b.next.new.self.at
found b = found_by b.args.log.now b.loop-found.found-iterator b.next.new.self b.in-Some.found b.loop-found.invariant.0 b.in-Some.ensures.steps

pub replay_found-a-requires : goal.replay_found-a-requires
replay_found-a-requires c = (some-byte _ _ _ _ _ (found (goal.at.replay_found-a-requires c).In-Some), c.loop-found.invariant.1.tested)

pub slice_bounds-copy_from_slice-end : goal.slice_bounds-copy_from_slice-end
slice_bounds-copy_from_slice-end c =
    omega (arith, room-for-one _ _ _ _ _ _ _ c.loop-found.invariant.1.done (found (goal.at.slice_bounds-copy_from_slice-end c).In-Some).inside)

pub loop-found-preserved : goal.loop-found-preserved
loop-found-preserved c =
    let v = c.loop-found in
    let held = v.invariant.1 in
    let f = found (goal.at.loop-found-preserved c).In-Some in
    let log = c.args.log.now in
    let at = v.found-iterator.at in
    let t = tables v.queues v.pool v.tasks in (
      ap (λ x. x.now) c.in-Some.ensures.steps.0 ∙ v.invariant.0,
      record {
        tested =
            verdict-stays t held.queue-bytes held.pool-bytes held.task-bytes c.table_refusal-verdict.result held.tested
            (slice at record_width log) (sliced at record_width log (λ j. (c.type_inv.log j).fits))
            ∙ sym (ap (λ (x : Replayed). first_status (table_refusals x.after)) (c.replay_found-a.ensures ∙ record-replayed _ _ _ _ _ f t));
        queue-bytes = λ j. (c.type_inv.queues j).fits;
        pool-bytes = λ j. (c.type_inv.pool j).fits;
        task-bytes = λ j. (c.type_inv.tasks j).fits;
        done =
            rw c.copy_from_slice.ensures.after
            (one-more-replayed _ _ _ _ _ _ _ held.done _ _ _ f _ _ c.replay_found-a.ensures _ (omega arith));
      },
    )

pub returns : goal.returns
returns c =
    let v = c.loop-found in
    all-replayed _ _ _ _ _ _ _ v.invariant.1.done (omega (arith, ap length v.invariant.0, c.in-None.ensures.steps.1.0))
