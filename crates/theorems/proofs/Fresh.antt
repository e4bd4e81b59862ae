-- Fresh tables are sound, and every share is confined in them. Assumes nothing.
use Prim.Native.Nat.{ℕ, suc, ◌≤◌, ◌<◌}
use native.Mathlib.Omega.{arith}
use mathlib.Core.Path.{◌≡◌, refl, sym, ap, ◌∙◌}
use mathlib.Core.Bool.{true}
use mathlib.Core.List.{List, [], ◌∷◌}
use lib.Dec.{eqb}
use lib.ListN.{length, get_or, length-replicate, get_or-replicate}
use borrow.Author.Tests.{eqb-true, le-leb}
use Rattle.ranks.specs.Lists.{sum_of, all_zero, within}
use Rattle.records.specs.Layout.{buffer_count, task_count, slot_count}
use Rattle.records.specs.Split.{share_of_task}
use Rattle.records.specs.Records.{Queue, Buffer, Task, queue_at, buffer_at, task_at, free_queue, free_buffer, fresh_task, fresh}
use Rattle.specification.specs.Sound.{limits, task_rules}
use Rattle.specification.specs.Run.{good_priorities}
use Rattle.ranks.proofs.Lists.{at-mapped, length-mapped, every-at, held}
use Rattle.ranks.proofs.Ranks.{nobody}
use Rattle.ranks.proofs.Tests.{both}
use Rattle.specification.proofs.Rules.{free-sound, ready-sound, bounds}
use Rattle.specification.proofs.SoundFacts.{Sized, SoundFacts}
use Rattle.theorems.proofs.SoundCleared.{free-sound'}
use Rattle.theorems.proofs.SoundCreate.{adds, adds-free}
use Rattle.theorems.proofs.Equivalent.{Equivalent, Confined}

-- as many priorities as tasks, each at least 1
pub record Priorities (ps : List ℕ) : Type 0 where
  pub count : length ps ≡ task_count
  pub low : (t : ℕ) → t < task_count → 1 ≤ get_or ps t 0

pub priorities : (ps : List ℕ) → good_priorities ps ≡ true → Priorities ps
unfolding good_priorities
priorities ps e =
    let (a, b) = both (eqb (length ps) task_count) _ e in
    let n : length ps ≡ task_count = eqb-true _ _ a in
    record { count = n; low = λ t h. (bounds _ _ _ (every-at (λ t p. within 1 255 p) ps 0 b t (omega arith))).0 }

sum-zero : (l : List ℕ) → ((i : ℕ) → i < length l → get_or l i 0 ≡ 0) → sum_of l ≡ 0
unfolding sum_of
sum-zero [] h = refl
sum-zero (n ∷ l) h =
    let a : n ≡ 0 = h 0 (omega arith) in
    let ih : sum_of l ≡ 0 = sum-zero l (λ i lt. h (suc i) (omega arith)) in
    omega arith

module _ (ps : List ℕ) (pr : Priorities ps) where
  -- ---- The records

  pub fresh-queue : (i : ℕ) → i < slot_count → queue_at (fresh ps) i ≡ free_queue 0
  unfolding fresh
  fresh-queue i h = get_or-replicate slot_count i (free_queue 0) (free_queue 0) h

  pub fresh-buffer : (b : ℕ) → b < buffer_count → buffer_at (fresh ps) b ≡ free_buffer
  unfolding fresh
  fresh-buffer b h = get_or-replicate buffer_count b free_buffer free_buffer h

  pub fresh-task : (t : ℕ) → t < task_count → task_at (fresh ps) t ≡ fresh_task (get_or ps t 0)
  unfolding fresh
  fresh-task t h = at-mapped (λ t p. fresh_task p) ps t 0 (fresh_task 1) (omega (arith, pr.count))

  fresh-sized : Sized (fresh ps)
  unfolding fresh
  fresh-sized = record { queues = length-replicate slot_count (free_queue 0); pool = length-replicate buffer_count free_buffer; tasks = length-mapped _ ps ∙ pr.count }

  -- ---- Sound

  fresh-limits : (p : ℕ) → limits (fresh ps) p ≡ 0
  unfolding limits
  fresh-limits p =
      sum-zero _
      (λ i lt.
      let n = length-mapped (adds p) (fresh ps).queues in
      let z = fresh-sized.queues in
      let h : i < slot_count = omega arith in
      at-mapped (adds p) (fresh ps).queues i (free_queue 0) 0 (omega arith) ∙ adds-free p i (queue_at (fresh ps) i) (ap (λ (q : Queue). q.live) (fresh-queue i h)))

  task-in-none : (t : ℕ) → t < task_count → (task_at (fresh ps) t).position.queue ≡ 0
  task-in-none t h = ap (λ (w : Task). w.position.queue) (fresh-task t h)

  pub fresh-sound : SoundFacts (fresh ps)
  unfolding all_zero task_rules
  fresh-sound =
      record {
        sized = fresh-sized;
        queue =
            λ i h.
            rw (fresh-queue i h)
            (free-sound _
            (record { live = refl; attributes = refl; limit = refl; max_size = refl; pending = refl; waiters = refl; name = refl; reserved = refl }));
        limit = λ p h. let e = fresh-limits p in omega arith;
        buffer = λ b h. rw (fresh-buffer b h) (free-sound' _ b);
        messages =
            λ i h.
            rw (fresh-queue i h) (nobody buffer_count _ i (λ b hb q. let e = ap (λ (m : Buffer). m.position.queue) (fresh-buffer b hb) in omega arith));
        waiters = λ i h. rw (fresh-queue i h) (nobody task_count _ i (λ t ht q. let e = task-in-none t ht in omega arith));
        order = λ i h p a b ha hb qa qb lt. absurd (let e = task-in-none a ha in omega arith);
        task =
            λ t h.
            rw (fresh-task t h)
            (ready-sound (fresh ps) t _
            (record {
              rules = held _ (le-leb _ _ (pr.low t h), (refl, (refl, tt)));
              state = refl;
              queue = refl;
              rank = refl;
              ticks_left = refl;
              status = refl;
              message_length = omega arith;
            }));
      }

  -- ---- Confined

  pub fresh-confined : (x : ℕ) → Confined x (fresh ps)
  fresh-confined x =
      record {
        facts = fresh-sound;
        confined =
            record {
              closed = λ i h o. rw (fresh-queue i h) (omega arith);
              home = λ t h o slot q. absurd (let e = task-in-none t h in omega arith);
            };
      }

-- fresh tables in which the tasks of x have the same priorities
pub fresh-equivalent : (x : ℕ) (ps ps' : List ℕ) → Priorities ps → Priorities ps'
    → ((t : ℕ) → t < task_count → share_of_task t ≡ x → get_or ps t 0 ≡ get_or ps' t 0) → Equivalent x (fresh ps) (fresh ps')
fresh-equivalent x ps ps' p p' e =
    record {
      queues = λ i h o. fresh-queue ps p i h ∙ sym (fresh-queue ps' p' i h);
      pool = λ b h o. fresh-buffer ps p b h ∙ sym (fresh-buffer ps' p' b h);
      tasks = λ t h o. fresh-task ps p t h ∙ ap fresh_task (e t h o) ∙ sym (fresh-task ps' p' t h);
    }
