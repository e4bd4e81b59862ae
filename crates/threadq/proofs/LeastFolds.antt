-- The least of the tasks' numbers, as a fold over the tasks comes to it. Assumes nothing.
use Prim.Native.Nat.{ℕ, ◌<◌, min}
use native.Mathlib.Omega.{arith}
use mathlib.Core.Path.{◌≡◌, refl, sym, ap, ◌∙◌}
use mathlib.Core.List.{List, [], ◌∷◌, map}
use Rattle.std.specs.List.{fold, range_with_len}
use Rattle.std.proofs.lemmas.List.FromFn.{length-map-range_with_len, get_or-map-range_with_len}
use Rattle.ranks.specs.Lists.{map_with_index, minimum}
use Rattle.ranks.proofs.Lists.{is_mapped}
use Rattle.records.specs.Layout.{task_count, task_width}
use Rattle.records.specs.Records.{Task, fresh_task}
use Rattle.records.specs.Bytes.{decode_task, decode_tasks, decode_task_at}
use Rattle.records.proofs.Access.{at_table}
use Rattle.records.proofs.Writing.{length-decoded}

least_more : (n m : ℕ) (ms : List ℕ) → minimum (min n m) ms ≡ min m (minimum n ms)
unfolding minimum
least_more n m [] = omega arith
least_more n m (x ∷ ms) = omega (arith, least_more n m ms)

least-fold : {A : Type 0} (f : A → ℕ) (n : ℕ) (xs : List A) → fold (λ m x. min m (f x)) n xs ≡ minimum n (map f xs)
unfolding minimum
least-fold f n [] = refl
least-fold f n (x ∷ xs) = least-fold f (min n (f x)) xs ∙ least_more n (f x) (map f xs)

pub least_of-tasks : (part : Task → ℕ) (rear : ℕ) (tasks : List ℕ)
    → fold (λ m t. min m (part (decode_task_at t tasks))) rear (range_with_len 0 task_count) ≡ minimum rear (map_with_index (λ t w. part w) (decode_tasks tasks))
least_of-tasks part rear tasks =
    let at : ℕ → ℕ = λ t. part (decode_task_at t tasks) in
    least-fold at rear (range_with_len 0 task_count)
    ∙ ap (minimum rear)
    (is_mapped (λ t w. part w) (decode_tasks tasks) (map at (range_with_len 0 task_count)) (fresh_task 1) 0
    (length-map-range_with_len at 0 task_count ∙ sym (length-decoded decode_task task_count task_width tasks))
    (λ t h.
    let lt : t < task_count = omega (arith, length-decoded decode_task task_count task_width tasks) in
    get_or-map-range_with_len at 0 task_count t t 0 lt (omega arith) ∙ ap part (sym (at_table decode_task task_count task_width tasks t lt (fresh_task 1)))))
