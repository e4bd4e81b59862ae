-- `coremsg::steps::copy_message` meets its contract. Assumes nothing.
use Prim.Native.Nat.{ℕ, ◌≤◌}
use native.Mathlib.Omega.{arith}
use mathlib.Core.Path.{ap, ◌∙◌}
use mathlib.Core.List.{List}
use Rattle.ranks.specs.Lists.{map_with_index}
use Rattle.records.specs.Layout.{capacity}
use Rattle.records.specs.Bytes.{decode_tasks}
use Rattle.records.specs.Changes.{at_index, with_message}
use Rattle.coremsg.proofs.Moves.{message-lent}
use Rattle.coremsg.proofs.steps.copy_message.Goals as goal

pub returns : goal.returns
returns c =
    let a = c.args in
    let n = c.message_size-n in
    let short : n.result ≤ capacity = omega (arith, n.ensures, c.requires.1.1.1.1) in (
      n.ensures,
      c.deliver.ensures
          ∙ ap (λ (m : List ℕ). map_with_index (at_index a.t (with_message m)) (decode_tasks a.tasks.now))
          (message-lent a.pool.now a.b n.result c.requires.1.0 c.requires.1.1.1.0 n.ensures short),
    )
