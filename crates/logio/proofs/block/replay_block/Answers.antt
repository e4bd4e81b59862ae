-- `logio::block::replay_block`. Assumes nothing.
use Rattle.std.proofs.Common.{◌≡◌, ◌≤◌, ◌*◌, ℕ, List, Err, length, take, length-take-le, zero-le, refl, ap, ◌∙◌, arith, rules}
use Rattle.records.specs.Bytes.{tables}
use Rattle.calllog.specs.CallLog.{answer_width, record_count}
use Rattle.runs.proofs.Replays.{answers-size}
use Rattle.logio.proofs.Room.{no_more, none-replayed}
use Rattle.logio.proofs.block.replay_block.Goals as goal

-- the part of a block that was read has no more records than the block, and their answers have room
room_for : (lent room part : List ℕ) (n : ℕ) → length part ≡ n → n ≤ length lent → record_count (length lent) * answer_width ≤ length room → record_count (length part) * answer_width ≤ length room
room_for lent room part n size inside enough = let fewer = no_more inside in rw size (omega (arith, fewer, enough))

pub returns-in_err-n : goal.returns-in_err-n
unfolding record_count
returns-in_err-n g c =
    let e : c.from_residual.result ≡ Err c.in_err-n.field-0.0 = search rules in
    let none = none-replayed (tables c.args.queues.now c.args.pool.now c.args.tasks.now) c.args.answers.now in
    rw e (record { inside = zero-le; ends = refl; within = zero-le; fills = c.in_err-n.ensures.fills; replays = none })

pub replay_all-end-requires : goal.replay_all-end-requires
replay_all-end-requires g c =
    let size = length-take-le c.in_ok-n.n c.fill.new.buffer (search rules) in
    room_for c.args.log.now c.args.answers.now (take c.in_ok-n.n c.fill.new.buffer) c.in_ok-n.n size c.in_ok-n.ensures.inside c.requires

pub returns : goal.returns
returns g c =
    let s = c.args in
    let part = take c.in_ok-n.n c.fill.new.buffer in
    let size = length-take-le c.in_ok-n.n c.fill.new.buffer (search rules) in
    let all = answers-size (tables s.queues.now s.pool.now s.tasks.now) part in
    let room = room_for s.log.now s.answers.now part c.in_ok-n.n size c.in_ok-n.ensures.inside c.requires in
    record {
      inside = c.in_ok-n.ensures.inside;
      ends = c.replay_all-end.ensures.0 ∙ all ∙ ap (λ (k : ℕ). record_count k * answer_width) size;
      within = omega (arith, c.replay_all-end.ensures.0, all, room);
      fills = c.in_ok-n.ensures.fills;
      replays = c.replay_all-end.ensures.1;
    }
