-- `fresh_tables::make::make_fresh` meets its contract. Assumes nothing.
use Rattle.std.proofs.Common.{arith, true}
use mathlib.Core.Path.{sym, ap, ◌∙◌}
use Rattle.records.specs.Bytes.{Tables}
use Rattle.fresh_tables.specs.Fresh.{made_fresh}
use Rattle.fresh_tables.proofs.FreshTables.{right-count}
use Rattle.fresh_tables.proofs.make.make_fresh.Goals as goal

pub returns-then-not-right_lengths : goal.returns-then-not-right_lengths
unfolding made_fresh
returns-then-not-right_lengths c = grind arith

pub write_fresh-requires : goal.write_fresh-requires
write_fresh-requires c = (sym c.right_lengths.ensures ∙ c.if-not-right_lengths.false, right-count _ (sym c.good_priorities.ensures ∙ c.if-not-good_priorities.false))

pub returns : goal.returns
unfolding made_fresh
returns c =
    rw (sym c.right_lengths.ensures ∙ c.if-not-right_lengths.false, sym c.good_priorities.ensures ∙ c.if-not-good_priorities.false)
    (ap (λ (t : Tables). record { done = true; after = t }) c.write_fresh.ensures)
