-- Bytes of the tables and fields of the records, for the proofs of code that reads and writes bytes. Assumes nothing.
use Prim.Native.Nat.{ℕ, zero, suc, ◌+◌, ◌*◌, ◌/◌, ◌%◌, ◌<◌}
use native.Mathlib.Omega.{arith}
use native.Mathlib.Nat.{not-suc-le-zero}
use mathlib.Core.Path.{◌≡◌, refl, ap, ap₂, ◌∙◌}
use mathlib.Core.Bool.{Bool, true, false}
use mathlib.Core.List.{List, [], ◌∷◌, map}
use lib.Count.{ones, ones_in, ones_step}
use Rattle.ranks.proofs.Table.{length-records, at_records}
use Rattle.ranks.specs.Lists.{mask, count_true}
use Rattle.records.specs.Layout.{slot_count, queue_width, buffer_count, buffer_width, task_count, task_width}
use Rattle.records.specs.Records.{queue_at, buffer_at, task_at, free_queue, free_buffer, fresh_task}
use Rattle.ranks.specs.Table.{slice, records}
use Rattle.records.specs.Bytes.{decode_queue, decode_buffer, decode_task, Tables, decode, decode_queue_at, decode_buffer_at, decode_task_at}
use lib.ListN.{length, get_or}

-- ---- Reading

pub at_map : {A B : Type 0} (f : A → B) (l : List A) (i : ℕ) (a : A) (b : B) → i < length l → get_or (map f l) i b ≡ f (get_or l i a)
at_map f [] i a b h = absurd (not-suc-le-zero h)
at_map f (x ∷ l) zero a b h = refl
at_map f (x ∷ l) (suc i) a b h = at_map f l i a b (omega arith)

-- record i of a table
pub at_table : {A : Type 0} (read : List ℕ → A) (k n : ℕ) (t : List ℕ) (i : ℕ) → i < k → (d : A) → get_or (map read (records k n t)) i d ≡ read (slice (i * n) n t)
at_table read k n t i h d = at_map read (records k n t) i [] d (omega (arith, length-records k n t)) ∙ ap read (at_records k n t i h)

pub queue-at : (t : Tables) (i : ℕ) → i < slot_count → queue_at (decode t) i ≡ decode_queue_at i t.queues
unfolding decode
queue-at t i h = at_table decode_queue slot_count queue_width t.queues i h (free_queue 0)

pub buffer-at : (t : Tables) (b : ℕ) → b < buffer_count → buffer_at (decode t) b ≡ decode_buffer_at b t.pool
unfolding decode
buffer-at t b h = at_table decode_buffer buffer_count buffer_width t.pool b h free_buffer

pub task-at : (t : Tables) (k : ℕ) → k < task_count → task_at (decode t) k ≡ decode_task_at k t.tasks
unfolding decode
task-at t k h = at_table decode_task task_count task_width t.tasks k h (fresh_task 1)

-- ---- A mask and its ones

-- the ones in a mask are as many as the tests that are passed
pub ones-mask : (bs : List Bool) → ones (mask bs) ≡ count_true bs
unfolding mask count_true ones ones_in
ones-mask [] = refl
ones-mask (true ∷ bs) =
    let m : (1 + 2 * mask bs) % 2 ≡ 1 = omega arith in
    let d : (1 + 2 * mask bs) / 2 ≡ mask bs = omega arith in
    ones_step (1 + 2 * mask bs) ∙ ap₂ (λ (x y : ℕ). x + ones y) m d ∙ ap (λ (x : ℕ). 1 + x) (ones-mask bs) ∙ omega arith
ones-mask (false ∷ bs) =
    let m : (2 * mask bs) % 2 ≡ 0 = omega arith in
    let d : (2 * mask bs) / 2 ≡ mask bs = omega arith in
    ones_step (2 * mask bs) ∙ ap₂ (λ (x y : ℕ). x + ones y) m d ∙ ap (λ (x : ℕ). 0 + x) (ones-mask bs) ∙ omega arith
