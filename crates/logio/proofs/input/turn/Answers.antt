-- `logio::input::turn`. Assumes nothing.
use Rattle.std.proofs.Common.{◌≡◌, Ok, Err, refl, arith, rules}
use Rattle.std.specs.declared.io.Error.{Error}
use Rattle.calllog.specs.CallLog.{record_count}
use Rattle.logio.specs.declared.input.ReplayError.TheVariants.{NotRead, NotWritten}
use Rattle.logio.proofs.Blocks.{unread, finished, one-turn}
use Rattle.logio.proofs.input.turn.Goals as goal

pub replay_block-requires : goal.replay_block-requires
unfolding record_count
replay_block-requires c κs = ((refl, tt), omega arith)

pub returns-in_err-block : goal.returns-in_err-block
returns-in_err-block c =
    let failed : (e : Error) × (c.replay_block.result ≡ Err e) × (c.from_residual.result ≡ Err (NotRead e)) = search rules in
    one-turn c.standard_input-from.ensures c.replay_block.ensures (unread failed.1 failed.2)

pub returns-in_err-map_err : goal.returns-in_err-map_err
returns-in_err-map_err c =
    let read : c.replay_block.result ≡ Ok c.in_ok-block.block = search rules in
    let failed : (e : Error) × (c.write_answers.result ≡ Err e) × (c.from_residual-in_err-map_err.result ≡ Err (NotWritten e)) = search rules in
    one-turn c.standard_input-from.ensures c.replay_block.ensures (finished c.replay_block.new.answers read c.write_answers.ensures (rw failed.1 failed.2))

pub returns : goal.returns
returns c =
    let read : c.replay_block.result ≡ Ok c.in_ok-block.block = search rules in
    let done : c.write_answers.result ≡ Ok tt = search rules in
    one-turn c.standard_input-from.ensures c.replay_block.ensures (finished c.replay_block.new.answers read c.write_answers.ensures (rw done refl))
