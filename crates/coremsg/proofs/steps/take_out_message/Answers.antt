-- `coremsg::steps::take_out_message` meets its contract. Assumes nothing.
use mathlib.Core.Path.{refl}
use Rattle.ranks.specs.Steps.{taken_out}
use Rattle.records.specs.Records.{free_buffer}
use Rattle.coremsg.proofs.Changed.{buffer_stepped}
use Rattle.coremsg.proofs.steps.take_out_message.Goals as goal

pub returns : goal.returns
returns c =
    let a = c.args in
    buffer_stepped (taken_out a.b a.slot 0) a.b (λ _. free_buffer) (λ p m. refl) a.pool.now _ _ c.requires.1.1 c.take_out.ensures c.clear_buffer.ensures
