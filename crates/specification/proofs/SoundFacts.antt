-- Sound tables as facts about each record. Assumes nothing.
use Prim.Native.Nat.{ℕ, suc, ◌%◌, ◌≤◌, ◌<◌}
use native.Mathlib.Nat.{zero-add}
use native.Mathlib.Omega.{arith}
use mathlib.Core.Path.{◌≡◌, sym, ap, ◌∙◌, subst}
use mathlib.Core.Bool.{true, false≢true}
use mathlib.Core.Logic.{◌⊎◌, ⊎_elim}
use mathlib.Core.List.{List}
use lib.Dec.{eqb, leb}
use lib.ListN.{length, get_or}
use borrow.Author.Tests.{eqb-true, ltb-true, lt-ltb, eq-eqb, leb-true, le-leb}
use Rattle.ranks.specs.Lists.{all_true, map_with_index, numbers_from, ◌implies◌}
use Rattle.records.specs.Layout.{buffer_count, task_count, slot_count}
use Rattle.records.specs.Split.{share_count, share_limit}
use Rattle.ranks.specs.Position.{Position}
use Rattle.records.specs.Records.{Buffer, Task, State, queue_at, buffer_at, task_at, free_queue, free_buffer, fresh_task, is_live, has_priority}
use Rattle.ranks.specs.Steps.{ranked}
use Rattle.specification.specs.Sound.{limits, sound_queue, sound_limits, sound_buffer, sound_task, sound_ranks, by_priority, sound}
use Rattle.ranks.proofs.Tests.{both, and}
use Rattle.ranks.proofs.Lists.{every-at, every-from, length-range, at-range, holds, held}
use Rattle.ranks.proofs.Ranks.{Ranked, nobody}
use Rattle.specification.proofs.Rules.{Live, Free, queue-rules, InLive, Owned, buffer-owner, task-owner}
use Rattle.ranks.proofs.ByRank.{RankedTable}
use Rattle.ranks.proofs.Ranked.{implied, implying, from-positions, to-positions}

-- the number of records of each table
pub record Sized (s : State) : Type 0 where
  pub queues : length s.queues ≡ slot_count
  pub pool : length s.pool ≡ buffer_count
  pub tasks : length s.tasks ≡ task_count

-- priorities never fall as ranks rise
abbrev pub Ordered : State → ℕ → Type 0
Ordered s slot =
    (i j : ℕ) → i < task_count → j < task_count → (task_at s i).position.queue ≡ suc slot → (task_at s j).position.queue ≡ suc slot
    → (task_at s i).position.rank < (task_at s j).position.rank → (task_at s i).priority ≤ (task_at s j).priority

pub record SoundFacts (s : State) : Type 0 where
  pub sized : Sized s
  pub queue : (i : ℕ) → i < slot_count → sound_queue (queue_at s i) ≡ true
  pub limit : (p : ℕ) → p < share_count → limits s p ≤ share_limit p
  pub buffer : (b : ℕ) → b < buffer_count → sound_buffer s b (buffer_at s b) ≡ true
  pub messages : (i : ℕ) → i < slot_count → Ranked buffer_count (λ b. (buffer_at s b).position) i (queue_at s i).pending
  pub waiters : (i : ℕ) → i < slot_count → Ranked task_count (λ t. (task_at s t).position) i (queue_at s i).waiters
  pub order : (i : ℕ) → i < slot_count → has_priority (queue_at s i) ≡ true → Ordered s i
  pub task : (t : ℕ) → t < task_count → sound_task s t (task_at s t) ≡ true

-- the rule of ranks in a table of N records, as facts about them and back
module _ {A : Type 0} (position : A → Position) (xs : List A) (d : A) {N : ℕ} (long : length xs ≡ N) (slot n : ℕ) where
  pub rank-each : ranked slot n (map_with_index (λ j x. position x) xs) ≡ true → Ranked N (λ j. position (get_or xs j d)) slot n
  rank-each e = subst (λ (k : ℕ). Ranked k (λ j. position (get_or xs j d)) slot n) long (from-positions position xs d slot n e)

  rank-all : Ranked N (λ j. position (get_or xs j d)) slot n → ranked slot n (map_with_index (λ j x. position x) xs) ≡ true
  rank-all r = to-positions position xs d slot n (subst (λ (k : ℕ). Ranked k (λ j. position (get_or xs j d)) slot n) (sym long) r)

module _ (s : State) (z : Sized s) where
  ordered : (slot : ℕ) → by_priority s slot ≡ true → Ordered s slot
  unfolding by_priority
  ordered slot e i j hi hj qi qj lt =
      let lt-i : i < length s.tasks = omega (arith, z.tasks) in
      let lt-j : j < length s.tasks = omega (arith, z.tasks) in
      let inner = implied (every-at _ s.tasks (fresh_task 1) e i lt-i) (eq-eqb _ _ qi) in
      leb-true _ _ (implied (every-at _ s.tasks (fresh_task 1) inner j lt-j) (and (eq-eqb _ _ qj) (lt-ltb _ _ lt)))

  orders : (slot : ℕ) → Ordered s slot → by_priority s slot ≡ true
  unfolding by_priority
  orders slot o =
      every-from _ s.tasks (fresh_task 1)
      (λ i hi. implying _ _
      (λ qi. every-from _ s.tasks (fresh_task 1)
      (λ j hj. implying _ _
      (λ e.
      let (qj, lt) = both _ _ e in
      le-leb _ _ (o i j (omega (arith, z.tasks)) (omega (arith, z.tasks)) (eqb-true _ _ qi) (eqb-true _ _ qj) (ltb-true _ _ lt))))))

  pub sound-facts : sound s ≡ true → SoundFacts s
  unfolding sound sound_limits sound_ranks
  sound-facts e =
      let (queues, (lims, (pool, (ranks, (tasks, end))))) = holds _ e in
      record {
        sized = z;
        queue = λ i h. every-at (λ i q. sound_queue q) s.queues (free_queue 0) queues i (omega (arith, z.queues));
        limit =
            λ p h.
            subst (λ (k : ℕ). limits s k ≤ share_limit k) (at-range 0 share_count p 0 (omega arith) ∙ zero-add p)
            (leb-true _ _ (every-at (λ i p. leb (limits s p) (share_limit p)) (numbers_from 0 share_count) 0 lims p (omega (arith, length-range 0 share_count))));
        buffer = buffer-of pool;
        messages =
            λ i h.
            ⊎_elim (λ l. rank-each (λ (m : Buffer). m.position) s.pool free_buffer z.pool i (queue_at s i).pending (holds _ (rank ranks i h l)).0)
            (λ f. none_in buffer_count (λ b. (buffer_at s b).position) i (queue_at s i).pending f f.pending (λ b k. buffer-owner s b _ (buffer-of pool b k))) (kind queues i h);
        waiters =
            λ i h.
            ⊎_elim (λ l. rank-each (λ (w : Task). w.position) s.tasks (fresh_task 1) z.tasks i (queue_at s i).waiters (holds _ (rank ranks i h l)).1.0)
            (λ f. none_in task_count (λ t. (task_at s t).position) i (queue_at s i).waiters f f.waiters (λ t k. task-owner s t _ (task-of tasks t k))) (kind queues i h);
        order =
            λ i h p.
            ⊎_elim (λ l. ordered i (implied (holds _ (rank ranks i h l)).1.1.0 p))
            (λ e. absurd (false≢true (sym (ap (λ (n : ℕ). eqb (n % 2) 1) e.attributes) ∙ p))) (kind queues i h);
        task = task-of tasks;
      }
    where
      buffer-of : all_true (map_with_index (λ b m. sound_buffer s b m) s.pool) ≡ true → (b : ℕ) → b < buffer_count → sound_buffer s b (buffer_at s b) ≡ true
      buffer-of e b h = every-at (λ b m. sound_buffer s b m) s.pool free_buffer e b (omega (arith, z.pool))

      task-of : all_true (map_with_index (λ t w. sound_task s t w) s.tasks) ≡ true → (t : ℕ) → t < task_count → sound_task s t (task_at s t) ≡ true
      task-of e t h = every-at (λ t w. sound_task s t w) s.tasks (fresh_task 1) e t (omega (arith, z.tasks))

      -- a queue is live or free
      kind : all_true (map_with_index (λ i q. sound_queue q) s.queues) ≡ true → (i : ℕ) → i < slot_count → Live (queue_at s i) ⊎ Free (queue_at s i)
      kind e i h = queue-rules _ (every-at (λ i q. sound_queue q) s.queues (free_queue 0) e i (omega (arith, z.queues)))

      rank : all_true (map_with_index (λ i q. is_live q implies sound_ranks s i q) s.queues) ≡ true → (i : ℕ) → i < slot_count → Live (queue_at s i)
          → sound_ranks s i (queue_at s i) ≡ true
      rank e i h l =
          implied (every-at (λ i q. is_live q implies sound_ranks s i q) s.queues (free_queue 0) e i (omega (arith, z.queues))) (eq-eqb _ _ l.live)

      -- no record is in a free queue, if what names a queue names a live one
      none_in : (N : ℕ) (P : ℕ → Position) (i n : ℕ) → Free (queue_at s i) → n ≡ 0 → ((j : ℕ) → j < N → Owned s (P j)) → Ranked N P i n
      none_in N P i n f e owner =
          subst (λ (k : ℕ). Ranked N P i k) (sym e)
          (nobody N P i
          (λ j h q.
          ⊎_elim (λ z. omega arith)
          (λ (w : InLive s (P j)).
          let this : w.slot ≡ i = let a = w.queue in omega arith in
          let a : (queue_at s i).live ≡ 1 = subst (λ (k : ℕ). (queue_at s k).live ≡ 1) this w.live in
          let b = f.live in
          omega arith)
          (owner j h)))

pub is-sound : (s : State) → SoundFacts s → sound s ≡ true
unfolding sound sound_limits sound_ranks
is-sound s g =
    held _ (
      every-from (λ i q. sound_queue q) s.queues (free_queue 0) (λ i h. g.queue i (omega (arith, z.queues))),
      (
        every-from (λ i p. leb (limits s p) (share_limit p)) (numbers_from 0 share_count) 0
            (λ i h.
            let lt : i < share_count = omega (arith, length-range 0 share_count) in
            subst (λ (k : ℕ). leb (limits s k) (share_limit k) ≡ true) (sym (at-range 0 share_count i 0 lt ∙ zero-add i)) (le-leb _ _ (g.limit i (omega arith)))),
        (
          every-from (λ b m. sound_buffer s b m) s.pool free_buffer (λ b h. g.buffer b (omega (arith, z.pool))),
          (
            every-from (λ i q. is_live q implies sound_ranks s i q) s.queues (free_queue 0)
                (λ i h. implying (is_live (queue_at s i)) _ (λ _. rank i (omega (arith, z.queues)))),
            (every-from (λ t w. sound_task s t w) s.tasks (fresh_task 1) (λ t h. g.task t (omega (arith, z.tasks))), tt),
          ),
        ),
      ),
    )
  where
    z : Sized s
    z = g.sized

    rank : (i : ℕ) → i < slot_count → sound_ranks s i (queue_at s i) ≡ true
    rank i h =
        held _ (
          rank-all (λ (m : Buffer). m.position) s.pool free_buffer z.pool i (queue_at s i).pending (g.messages i h),
          (
            rank-all (λ (w : Task). w.position) s.tasks (fresh_task 1) z.tasks i (queue_at s i).waiters (g.waiters i h),
            (implying _ _ (λ p. orders s z i (g.order i h p)), tt),
          ),
        )

-- the two tables of each queue's records
module _ (s : State) (g : SoundFacts s) where
  pub buffers-ranked : (i : ℕ) → i < slot_count → RankedTable (λ (m : Buffer). m.position) free_buffer buffer_count i (queue_at s i).pending s.pool
  buffers-ranked i h = record { long = g.sized.pool; ranks = g.messages i h }

  pub tasks-ranked : (i : ℕ) → i < slot_count → RankedTable (λ (w : Task). w.position) (fresh_task 1) task_count i (queue_at s i).waiters s.tasks
  tasks-ranked i h = record { long = g.sized.tasks; ranks = g.waiters i h }
