-- What becomes of the tables as their records are changed one after the other. Assumes nothing.
use Prim.Native.Nat.{ℕ, zero, suc, ◌+◌, ◌-◌, ◌^◌, ◌<◌}
use native.Mathlib.Omega.{arith}
use native.Mathlib.Nat.{add-zero, suc-add, add-suc, not-suc-le-zero, pow-suc, zero-add}
use mathlib.Core.Path.{◌≡◌, refl, sym, ap, ◌∙◌, subst}
use mathlib.Core.List.{List, [], ◌∷◌}
use lib.Dec.{eqb}
use lib.ListN.{length, get_or}
use borrow.Author.Tests.{eq-eqb, ne_eqb}
use Rattle.std.specs.Prelude.{if◌then◌else◌}
use Rattle.ranks.specs.Lists.{map_from_index, map_with_index, mask}
use Rattle.ranks.specs.Position.{Position}
use Rattle.ranks.specs.Steps.{taken_out}
use Rattle.ranks.specs.Table.{records, moved}
use Rattle.ranks.proofs.Lists.{at-mapped, length-mapped, mapped-cong}
use Rattle.records.specs.Layout.{buffer_count, buffer_position, buffer_width, pool_size, task_count, task_position, task_width, tasks_size}
use Rattle.records.specs.Records.{Buffer, Task, State, free_buffer, fresh_task}
use Rattle.records.specs.Bytes.{tables, decode_queues, decode_pool, decode_tasks, decode}
use Rattle.records.specs.Changes.{at_index, with_waiters, move_buffer, move_task}
use Rattle.records.proofs.Writing.{pool-moved, tasks-moved}
use Rattle.specification.specs.Lookup.{leave}

-- each record changed by `g`, and then record i by `f`, which makes of it what `f` makes of the record as it was
pub at_after : {A : Type 0} (i : ℕ) (f : A → A) (g : ℕ → A → A) (d : A) → ((j : ℕ) (x : A) → f (g j x) ≡ f x) → (l m n : List A)
    → m ≡ map_with_index g l → n ≡ map_with_index (at_index i f) m → n ≡ map_with_index (λ j x. if eqb j i then f x else g j x) l
at_after i f g d same l m n each one =
    one ∙ ap (map_with_index (at_index i f)) each
    ∙ mapped-cong (at_index i f) (λ j x. if eqb j i then f x else g j x) (map_with_index g l) l d d d (length-mapped g l)
    (λ j h.
    ap (λ x. if eqb j i then f x else x) (at-mapped g l j d d (subst (λ (k : ℕ). j < k) (length-mapped g l) h))
    ∙ ap (λ x. if eqb j i then x else g j (get_or l j d)) (same j (get_or l j d)))

-- ---- A rank step, and the record that it was done for changed after it

module _ (F : ℕ → Position → Position) (i : ℕ) where
  pub buffer_stepped : (f : Buffer → Buffer) → ((p : Position) (m : Buffer) → f (move_buffer p m) ≡ f m) → (t u v : List ℕ) → length t ≡ pool_size
      → records buffer_count buffer_width u ≡ map_with_index (moved buffer_position F) (records buffer_count buffer_width t) → decode_pool v ≡ map_with_index (at_index i f) (decode_pool u)
      → decode_pool v ≡ map_with_index (λ j m. if eqb j i then f m else move_buffer (F j m.position) m) (decode_pool t)
  buffer_stepped f same t u v l step =
      at_after i f (λ j m. move_buffer (F j m.position) m) free_buffer (λ j m. same (F j m.position) m) (decode_pool t) (decode_pool u) (decode_pool v) (pool-moved F t u l step)

  pub task-stepped : (f : Task → Task) → ((p : Position) (w : Task) → f (move_task p w) ≡ f w) → (t u v : List ℕ) → length t ≡ tasks_size
      → records task_count task_width u ≡ map_with_index (moved task_position F) (records task_count task_width t) → decode_tasks v ≡ map_with_index (at_index i f) (decode_tasks u)
      → decode_tasks v ≡ map_with_index (λ j w. if eqb j i then f w else move_task (F j w.position) w) (decode_tasks t)
  task-stepped f same t u v l step =
      at_after i f (λ j w. move_task (F j w.position) w) (fresh_task 1) (λ j w. same (F j w.position) w) (decode_tasks t) (decode_tasks u) (decode_tasks v) (tasks-moved F t u l step)

-- ---- The three tables together, by their records

pub state-is : (queues pool tasks : List ℕ) (s : State) → decode_queues queues ≡ s.queues → decode_pool pool ≡ s.pool → decode_tasks tasks ≡ s.tasks
    → decode (tables queues pool tasks) ≡ s
unfolding decode
state-is queues pool tasks s eq ep ew = λ i. record { queues = eq i; pool = ep i; tasks = ew i }

-- a task is taken out of its queue and changed, and the queue has a waiter less
pub task_left : (queues tasks out queues' tasks' : List ℕ) (t slot rank : ℕ) (f : Task → Task) → ((p : Position) (w : Task) → f (move_task p w) ≡ f w) → length tasks ≡ tasks_size
    → records task_count task_width out ≡ map_with_index (moved task_position (taken_out t slot rank)) (records task_count task_width tasks) → decode_tasks tasks' ≡ map_with_index (at_index t f) (decode_tasks out)
    → decode_queues queues' ≡ map_with_index (at_index slot (λ q. with_waiters (q.waiters - 1) q)) (decode_queues queues)
    → (pool : List ℕ) → decode (tables queues' pool tasks') ≡ leave (decode (tables queues pool tasks)) t slot rank f
unfolding leave decode
task_left queues tasks out queues' tasks' t slot rank f same l step one counted pool =
    state-is queues' pool tasks' (leave (decode (tables queues pool tasks)) t slot rank f) counted refl (task-stepped (taken_out t slot rank) t f same tasks out tasks' l step one)

-- ---- The mask of one task

mask-none : {A : Type 0} (k t : ℕ) (l : List A) → t < k → mask (map_from_index k (λ j w. eqb j t) l) ≡ 0
unfolding mask map_from_index
mask-none k t [] h = refl
mask-none k t (x ∷ l) h = rw (ne_eqb k t (λ e. omega arith)) (let ih = mask-none (suc k) t l (omega arith) in omega arith)

mask-from : {A : Type 0} (k t : ℕ) (l : List A) → t < length l → mask (map_from_index k (λ j w. eqb j (k + t)) l) ≡ 2 ^ t
unfolding mask map_from_index
mask-from k t [] h = absurd (not-suc-le-zero h)
mask-from k zero (x ∷ l) h =
    rw (add-zero k, eq-eqb k k refl) (let ih = mask-none (suc k) k l (omega arith) in omega arith)
mask-from k (suc t) (x ∷ l) h =
    rw (add-suc k t, ← suc-add k t, ne_eqb k (suc k + t) (λ e. omega arith))
    (let ih = mask-from (suc k) t l (omega arith) in let p = pow-suc 2 t in omega arith)

pub mask_one : {A : Type 0} (t : ℕ) (l : List A) → t < length l → mask (map_with_index (λ j w. eqb j t) l) ≡ 2 ^ t
unfolding map_with_index
mask_one t l h = ap (λ (k : ℕ). mask (map_from_index 0 (λ j w. eqb j k) l)) (sym (zero-add t)) ∙ mask-from 0 t l h
