-- `fresh_tables::start::priorities` meets its contract. Assumes nothing.
use Rattle.std.proofs.Common.{rules, ◌+◌, ◌≡◌, ◌∙◌, sym, get_or}
use native.Mathlib.Omega.{arith}
use lib.Seq.{ext_get_or}
use Rattle.ranks.specs.Lists.{numbers_from}
use Rattle.ranks.proofs.Lists.{length-range, at-range}
use Rattle.records.specs.Layout.{task_count}
use Rattle.fresh_tables.proofs.start.priorities.Goals as goal

pub returns : goal.returns
returns c =
    let made = c.from_fn.ensures.items in
    ext_get_or 0 c.from_fn.result (numbers_from 1 task_count) (made.long ∙ sym (length-range 1 task_count))
    (λ i lt.
    let (p, q, called) = made.at i 0 (omega (arith, made.long)) in
    let e : get_or c.from_fn.result i 0 ≡ i + 1 = search rules in
    omega (arith, at-range 1 task_count i 0 (omega (arith, made.long))))
