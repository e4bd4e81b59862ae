-- `ranks::insert` meets its contract. Assumes nothing.
use mathlib.Core.Path.{refl}
use Rattle.std.proofs.Common.{rules, get_or, []}
use Rattle.std.specs.Prelude.{unwrap_or}
use Rattle.ranks.specs.Steps.{inserted}
use Rattle.ranks.specs.Table.{records, position_in}
use Rattle.ranks.proofs.Table.{all-moved}
use Rattle.ranks.proofs.insert.Goals as goal

pub returns : goal.returns
returns c =
    let a = c.args in (
      all-moved a.positions.stride a.positions.place a.positions.count (inserted a.i a.slot a.rank) a.t.now c.shift.new.t (λ j h.
          let (other, made, written) = c.shift.ensures j h in
          (unwrap_or other (position_in a.positions.place (get_or (records a.positions.count a.positions.stride a.t.now) j [])), search rules, written)),
      refl,
    )
