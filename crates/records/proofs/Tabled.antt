-- Two functions whose values are computed to be the same below a number agree there, and a test that is computed at each number holds.
-- Assumes nothing.
use Prim.Native.Nat.{ℕ, ◌+◌, ◌≤◌, ◌<◌}
use native.Mathlib.Nat.{zero-add}
use native.Mathlib.Omega.{arith}
use mathlib.Core.Path.{◌≡◌, refl, sym, ap, subst, ◌∙◌}
use mathlib.Core.Bool.{Bool, true, false, ◌&&◌, not}
use mathlib.Core.List.{List, map}
use lib.Dec.{eqb, leb, ltb}
use lib.ListN.{get_or}
use borrow.Author.Tests.{leb-true, ltb-true}
use Rattle.std.specs.Prelude.{if◌then◌else◌}
use Rattle.ranks.specs.Lists.{all_true, every, first_true, map_from_index, map_with_index, numbers_from}
use Rattle.ranks.proofs.Lists.{every-at, length-range, at-range}
use Rattle.records.specs.Layout.{slot_count, buffer_count, task_count}
use Rattle.records.specs.Split.{share_of_slot, share_of_buffer, share_of_task, first_buffer, share_limit, share_count}
use Rattle.records.proofs.Access.{at_map}

pub agree : (f g : ℕ → ℕ) (n : ℕ) → map f (numbers_from 0 n) ≡ map g (numbers_from 0 n) → (i : ℕ) → i < n → f i ≡ g i
agree f g n e i h = sym (value f) ∙ ap (λ (l : List ℕ). get_or l i 0) e ∙ value g
  where
    value : (f : ℕ → ℕ) → get_or (map f (numbers_from 0 n)) i 0 ≡ f i
    value f = at_map f (numbers_from 0 n) i 0 0 (omega (arith, length-range 0 n)) ∙ ap f (at-range 0 n i 0 h ∙ zero-add i)

computed : (f : ℕ → Bool) (n : ℕ) → every (λ _ i. f i) (numbers_from 0 n) ≡ true → (i : ℕ) → i < n → f i ≡ true
computed f n e i h =
    subst (λ (k : ℕ). f k ≡ true) (at-range 0 n i 0 h ∙ zero-add i) (every-at (λ _ i. f i) (numbers_from 0 n) 0 e i (omega (arith, length-range 0 n)))

-- ---- The split into shares

pub slot-share-below : (slot : ℕ) → slot < slot_count → share_of_slot slot < share_count
unfolding all_true map_from_index map_with_index numbers_from first_true share_of_slot
slot-share-below slot h = ltb-true _ _ (computed (λ i. ltb (share_of_slot i) share_count) slot_count refl slot h)

pub task-share-below : (t : ℕ) → t < task_count → share_of_task t < share_count
unfolding all_true map_from_index map_with_index numbers_from first_true share_of_task
task-share-below t h = ltb-true _ _ (computed (λ i. ltb (share_of_task i) share_count) task_count refl t h)

pub buffers-end : (share : ℕ) → share < share_count → first_buffer share + share_limit share ≤ buffer_count
unfolding all_true map_from_index map_with_index numbers_from first_buffer share_limit
buffers-end share h = leb-true _ _ (computed (λ p. leb (first_buffer p + share_limit p) buffer_count) share_count refl share h)

-- a share's buffers are those from its first on
abbrev inside : (share b : ℕ) → Bool
inside share b = leb (first_buffer share) b && ltb b (first_buffer share + share_limit share)

same : Bool → Bool → Bool
same x y = if x then y else not y

all_same : every (λ _ p. every (λ _ b. same (inside p b) (eqb p (share_of_buffer b))) (numbers_from 0 buffer_count)) (numbers_from 0 share_count) ≡ true
unfolding all_true map_from_index map_with_index numbers_from first_true share_of_buffer first_buffer share_limit same
all_same = refl

pub share-buffers : (share b : ℕ) → share < share_count → b < buffer_count → (leb (first_buffer share) b && ltb b (first_buffer share + share_limit share)) ≡ eqb share (share_of_buffer b)
unfolding same
share-buffers share b h k =
    are-same (inside share b) (eqb share (share_of_buffer b))
    (computed (λ b. same (inside share b) (eqb share (share_of_buffer b))) buffer_count
    (computed (λ p. every (λ _ b. same (inside p b) (eqb p (share_of_buffer b))) (numbers_from 0 buffer_count)) share_count all_same share h) b k)
  where
    are-same : (x y : Bool) → same x y ≡ true → x ≡ y
    are-same true y e = sym e
    are-same false true e = e
    are-same false false e = refl
