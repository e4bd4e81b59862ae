-- `fresh_tables::make::good_priorities` meets its contract. Assumes nothing.
use Rattle.std.proofs.Common.{rules}
use Prim.Native.Nat.{ℕ, ◌<◌}
use native.Mathlib.Omega.{arith}
use mathlib.Core.Path.{◌≡◌, refl}
use mathlib.Core.Bool.{not}
use mathlib.Core.Logic.{⊎_elim}
use lib.Dec.{eqb}
use lib.ListN.{length, get_or}
use borrow.Author.Tests.{eq-eqb, ne_eqb, le-leb}
use Rattle.octets.specs.LittleEndian.{byte_values}
use Rattle.records.specs.Layout.{task_count}
use Rattle.std.proofs.lemmas.List.{get_or_default}
use Rattle.ranks.specs.Lists.{within}
use Rattle.ranks.proofs.Tests.{same?}
use Rattle.specification.specs.Run.{good_priorities}
use Rattle.soundness.proofs.EachRecord.{every-item}
use Rattle.fresh_tables.proofs.make.good_priorities.Goals as goal

-- a byte is a priority exactly if it is not 0
a-priority : (p : ℕ) → p < byte_values → not (eqb p 0) ≡ within 1 255 p
unfolding within
a-priority p small =
    ⊎_elim (λ (e : p ≡ 0). rw e refl) (λ ne. rw (ne_eqb p 0 ne, le-leb 1 p (omega (arith, ne)), le-leb p 255 (omega arith)) refl) (same? p 0)

pub returns-then-priorities-eq-TASK_COUNT : goal.returns-then-priorities-eq-TASK_COUNT
unfolding good_priorities
returns-then-priorities-eq-TASK_COUNT c =
    let ps = c.args.priorities.now in
    rw (eq-eqb (length ps) task_count c.if-priorities-eq-TASK_COUNT.true)
    (every-item (λ t p. within 1 255 p) ps (λ p. not (eqb p 0)) _ _ _ _ c.all.ensures.ran c.iter.ensures.rest (λ x b q k. search rules)
    (λ i d lt. a-priority (get_or ps i d) (let same : get_or ps i d ≡ get_or ps i 0 = get_or_default ps i d 0 lt in omega (arith, c.type_inv.priorities i))) 0)

pub returns-else-priorities-eq-TASK_COUNT : goal.returns-else-priorities-eq-TASK_COUNT
unfolding good_priorities
returns-else-priorities-eq-TASK_COUNT c = rw (ne_eqb (length c.args.priorities.now) task_count c.if-priorities-eq-TASK_COUNT.false) refl
