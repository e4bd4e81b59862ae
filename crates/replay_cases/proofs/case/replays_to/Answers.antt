-- `replay_cases::case::replays_to`. Assumes nothing.
use Rattle.std.proofs.Common.{◌≡◌, ◌≤◌, length, take, length-take-le, sym, replicate}
use Rattle.records.specs.Bytes.{tables}
use Rattle.runs.specs.Replay.{replayed}
use Rattle.logio.proofs.Room.{front-answers}
use Rattle.replay_cases.specs.StoredCase.{answers_room}
use Rattle.replay_cases.proofs.Laws.{same_bytes, replays-so}
use Rattle.replay_cases.proofs.case.replays_to.Goals.{After-replay_all-end}
use Rattle.replay_cases.proofs.case.replays_to.Goals as goal

-- the answers stand at the front
fronts : (d : After-replay_all-end) → (
    let r = d.replay_all-end in
    let a = d.args in
    (r.result ≤ length r.new.answers)
    × ((record { answers = take r.result r.new.answers; after = tables r.new.queues r.new.pool r.new.tasks })
    ≡ replayed (tables a.queues.now a.pool.now a.tasks.now) a.log.now))
fronts d =
    let r = d.replay_all-end in
    let a = d.args in
    front-answers (tables a.queues.now a.pool.now a.tasks.now) a.log.now (replicate answers_room 0) r.result r.ensures.0 r.ensures.1

pub slice_bounds-answers-end : goal.slice_bounds-answers-end
slice_bounds-answers-end c = (fronts (goal.at.slice_bounds-answers-end c).After-replay_all-end).0

pub slice_bounds-eq-end : goal.slice_bounds-eq-end
slice_bounds-eq-end c = sym (length-take-le _ _ (fronts (goal.at.slice_bounds-eq-end c).After-replay_all-end).0)

pub returns : goal.returns
returns c =
    let a = c.args in
    let same = same_bytes (take c.replay_all-end.result c.replay_all-end.new.answers) a.stored.now in
    rw (c.eq.ensures, c.are_tables_in.ensures, same)
    (replays-so (tables a.queues.now a.pool.now a.tasks.now) a.log.now a.stored.now a.image.now (fronts (goal.at.returns c).After-replay_all-end).1)
