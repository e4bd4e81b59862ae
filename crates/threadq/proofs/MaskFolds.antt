-- The mask of the tasks that pass a test. Assumes nothing.
use Prim.Native.Nat.{ℕ, ◌+◌, ◌*◌, ◌^◌, ◌≤◌, ◌<◌}
use native.Mathlib.Nat.{pow-suc}
use native.Mathlib.Omega.{arith}
use mathlib.Core.Path.{◌≡◌, refl, sym, ap, subst, ◌∙◌}
use mathlib.Core.Bool.{Bool, true, false}
use mathlib.Core.List.{List, [], ◌∷◌, ◌++◌}
use mathlib.Core.Logic.{⊎_elim}
use lib.Bits.{bit_or}
use lib.ListN.{length, get_or, length-append, get_or-append}
use lib.Seq.{get_or-append_seam}
use Rattle.std.proofs.lemmas.Nat.{or_comm, or_shifted}
use Rattle.ranks.specs.Lists.{mask, map_with_index}
use Rattle.ranks.proofs.Lists.{is_mapped}
use Rattle.ranks.proofs.Tests.{lt-or-ge}
use Rattle.records.specs.Layout.{task_count, task_width}
use Rattle.records.specs.Records.{Task, fresh_task}
use Rattle.records.specs.Bytes.{decode_task, decode_tasks, decode_task_at}
use Rattle.records.proofs.Access.{at_table}
use Rattle.records.proofs.Writing.{length-decoded}

mask_below : (bs : List Bool) → mask bs < 2 ^ length bs
unfolding mask
mask_below [] = omega arith
mask_below (true ∷ bs) = omega (arith, mask_below bs, pow-suc 2 (length bs))
mask_below (false ∷ bs) = omega (arith, mask_below bs, pow-suc 2 (length bs))

-- one more test, behind the others
mask_more : (bs : List Bool) → mask (bs ++ (true ∷ [])) ≡ 2 ^ length bs + mask bs
unfolding mask
mask_more [] = refl
mask_more (true ∷ bs) = omega (arith, mask_more bs, pow-suc 2 (length bs))
mask_more (false ∷ bs) = omega (arith, mask_more bs, pow-suc 2 (length bs))

mask_same : (bs : List Bool) → mask (bs ++ (false ∷ [])) ≡ mask bs
unfolding mask
mask_same [] = refl
mask_same (true ∷ bs) = omega (arith, mask_same bs)
mask_same (false ∷ bs) = omega (arith, mask_same bs)

-- `m` is the mask of the tasks below `t`, of each of which `P` tells whether it passes.
pub record MaskedUpTo (P : ℕ → Bool → Type 0) (m t : ℕ) : Type 0 where
  pub passes : List Bool
  pub size : length passes ≡ t
  pub each : (i : ℕ) → i < t → P i (get_or passes i false)
  pub is : m ≡ mask passes

module _ (P : ℕ → Bool → Type 0) where
  pub none-masked : MaskedUpTo P 0 0
  unfolding mask
  none-masked = record { passes = []; size = refl; each = λ i h. absurd (omega arith); is = refl }

  more-passes : (bs : List Bool) (t : ℕ) → length bs ≡ t → ((i : ℕ) → i < t → P i (get_or bs i false)) → (b : Bool) → P t b
      → (i : ℕ) → i < t + 1 → P i (get_or (bs ++ (b ∷ [])) i false)
  more-passes bs t size each b here i h =
      ⊎_elim (λ (lt : i < t). subst (P i) (sym (get_or-append bs (b ∷ []) false i (omega arith))) (each i lt))
      (λ (ge : t ≤ i).
      subst (λ (k : ℕ). P k (get_or (bs ++ (b ∷ [])) k false)) (let e : length bs ≡ i = omega arith in e)
      (subst (P (length bs)) (sym (get_or-append_seam bs b [] false)) (subst (λ (k : ℕ). P k b) (sym size) here)))
      (lt-or-ge i t)

  module _ {m t : ℕ} (before : MaskedUpTo P m t) where
    pub one-more-set : P t true → (bit : ℕ) → bit ≡ 2 ^ t → MaskedUpTo P (bit_or m bit) (t + 1)
    one-more-set here bit e =
        let below : m < 2 ^ t = omega (arith, before.is, mask_below before.passes, ap (λ (n : ℕ). 2 ^ n) before.size) in
        record {
          passes = before.passes ++ (true ∷ []);
          size = omega (arith, length-append before.passes (true ∷ []), before.size);
          each = more-passes before.passes t before.size before.each true here;
          is =
              or_comm m bit ∙ ap (λ (n : ℕ). bit_or n m) (let one : bit ≡ 1 * 2 ^ t = omega arith in one) ∙ or_shifted 1 t m below
              ∙ omega (arith, before.is, mask_more before.passes, ap (λ (n : ℕ). 2 ^ n) before.size);
        }

    pub one-more-clear : P t false → MaskedUpTo P m (t + 1)
    one-more-clear here =
        record {
          passes = before.passes ++ (false ∷ []);
          size = omega (arith, length-append before.passes (false ∷ []), before.size);
          each = more-passes before.passes t before.size before.each false here;
          is = before.is ∙ sym (mask_same before.passes);
        }

-- the mask, where the tests are those of the tasks
pub mask_of-tasks : (test : Task → Bool) (tasks : List ℕ) (passes : List Bool) → length passes ≡ task_count
    → ((t : ℕ) → t < task_count → get_or passes t false ≡ test (decode_task_at t tasks)) → mask passes ≡ mask (map_with_index (λ t w. test w) (decode_tasks tasks))
mask_of-tasks test tasks passes size each =
    ap mask
    (is_mapped (λ t w. test w) (decode_tasks tasks) passes (fresh_task 1) false (size ∙ sym (length-decoded decode_task task_count task_width tasks))
    (λ t h. let lt : t < task_count = omega (arith, length-decoded decode_task task_count task_width tasks) in each t lt ∙ ap test (sym (at_table decode_task task_count task_width tasks t lt (fresh_task 1)))))
