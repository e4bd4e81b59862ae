-- `octets::zeros::zeros_at` meets its contract. Assumes nothing.
use mathlib.Core.Path.{ap, ◌∙◌}
use lib.ListN.{length}
use Rattle.ranks.specs.Lists.{all_zero}
use Rattle.ranks.proofs.Table.{length-slice}
use Rattle.octets.proofs.ZeroBytes.{pointwise-zeros}
use Rattle.octets.proofs.zeros.zeros_at.Goals as goal

pub returns : goal.returns
returns g c =
    let bytes = c.bytes_at in
    c.eq.ensures
    ∙ pointwise-zeros g.row.N bytes.result (ap length bytes.ensures ∙ length-slice c.args.at g.row.N c.args.t.now c.requires)
    ∙ ap all_zero bytes.ensures
