-- Room for one more rank. Assumes nothing.
use Prim.Native.Nat.{ℕ, suc, ◌*◌, ◌≤◌, ◌<◌}
use native.Mathlib.Omega.{arith}
use mathlib.Core.Path.{◌≡◌, sym, ap, ◌∙◌}
use mathlib.Core.Bool.{false≢true}
use mathlib.Core.Logic.{◌⊎◌, inl, inr}
use mathlib.Core.List.{List, []}
use lib.ListN.{get_or, get_or-eq_default}
use borrow.Author.Tests.{eqb-true, ne_eqb}
use Rattle.ranks.specs.Position.{Position, in_queue}
use Rattle.ranks.specs.Steps.{Room}
use Rattle.ranks.specs.Table.{slice, records, position_in}
use Rattle.ranks.proofs.Tests.{lt-or-ge}
use Rattle.ranks.proofs.Table.{at_records, length-records}
use Rattle.ranks.proofs.Ranks.{Ranked}

-- the ranks of a queue, below a count that a byte holds, leave room for one more
pub room-behind : (place k n slot count : ℕ) (t : List ℕ) (at : ℕ → Position) → ((j : ℕ) → j < k → at j ≡ position_in place (slice (j * n) n t))
    → Ranked k at slot count → count ≤ 255 → Room place slot (records k n t)
room-behind place k n slot count t at same ranks few j e = go (lt-or-ge j k)
  where
    go : (j < k) ⊎ (k ≤ j) → (position_in place (get_or (records k n t) j [])).rank < 255
    go (inl h) =
        let here : at j ≡ position_in place (get_or (records k n t) j []) = same j h ∙ ap (position_in place) (sym (at_records k n t j h)) in
        let low = ranks.below j h (ap (λ (p : Position). p.queue) here ∙ eqb-true _ _ e) in
        let same_rank = ap (λ (p : Position). p.rank) here in
        omega (arith, low, same_rank, few)
    go (inr h) = absurd (false≢true (sym (ap (λ (r : List ℕ). in_queue slot (position_in place r)) (get_or-eq_default (records k n t) [] {n = j} (omega (arith, length-records k n t)))
        ∙ ne_eqb 0 (suc slot) (λ z. omega (arith, z))) ∙ e))
