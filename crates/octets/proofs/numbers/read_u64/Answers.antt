-- `octets::numbers::read_u64` meets its contract. Assumes nothing.
use mathlib.Core.Path.{ap, ◌∙◌}
use lib.ListN.{length}
use Rattle.ranks.proofs.Table.{length-slice}
use Rattle.octets.specs.LittleEndian.{from_little_endian}
use Rattle.octets.proofs.NumberBytes.{from-eight}
use Rattle.octets.proofs.numbers.read_u64.Goals as goal

pub returns : goal.returns
returns c =
    let bytes = c.bytes_at in
    c.from_le_bytes.ensures ∙ from-eight bytes.result (ap length bytes.ensures ∙ length-slice c.args.at 8 c.args.t.now c.requires) ∙ ap from_little_endian bytes.ensures
