-- `logio::input::tell`. Assumes nothing.
use Rattle.std.proofs.Common.{◌≡◌, Err, rules}
use Rattle.streams.specs.Writing.{input_name, output_name, length_name}
use Rattle.logio.specs.declared.input.ReplayError.TheVariants.{NotRead, NotWritten, TooLong}
use Rattle.logio.specs.Turns.{nothing, input, output, endless}
use Rattle.logio.proofs.input.tell.Goals as goal

pub returns-in-Ok : goal.returns-in-Ok
returns-in-Ok c = rw c.in-Ok.is nothing

pub returns-in-Err-NotRead : goal.returns-in-Err-NotRead
unfolding input_name
returns-in-Err-NotRead c =
    let is : c.args.ending ≡ Err (NotRead c.in-Err-NotRead.error) = search rules in
    rw is (input c.say_failed.ensures)

pub returns-in-Err-NotWritten : goal.returns-in-Err-NotWritten
unfolding output_name
returns-in-Err-NotWritten c =
    let is : c.args.ending ≡ Err (NotWritten c.in-Err-NotWritten.error) = search rules in
    rw is (output c.say_failed-in-Err-NotWritten.ensures)

pub returns-in-Err-TooLong : goal.returns-in-Err-TooLong
unfolding length_name
returns-in-Err-TooLong c =
    let is : c.args.ending ≡ Err TooLong = search rules in
    rw is (endless c.say_failed-in-Err-TooLong.ensures)
