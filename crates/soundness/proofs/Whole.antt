-- The parts of the search say together what `sound` says. Assumes nothing.
use Prim.Native.Nat.{ℕ, ◌<◌}
use mathlib.Core.Path.{◌≡◌, refl, sym, ap, ◌∙◌}
use mathlib.Core.Bool.{Bool, true, false, ◌&&◌, and-true, and_assoc, and_comm}
use mathlib.Core.List.{List, [], ◌∷◌}
use lib.ListN.{length, get_or}
use Rattle.ranks.specs.Lists.{◌implies◌, all_true, every}
use Rattle.ranks.proofs.Tests.{both, and}
use Rattle.ranks.proofs.Lists.{all_cons, all_nil, every-at, every-from, mapped-cong}
use Rattle.records.specs.Records.{Queue, State, free_queue, is_live}
use Rattle.records.specs.Bytes.{decode_queues, decode_pool, decode_tasks, decode}
use Rattle.specification.specs.Sound.{sound_queue, limits, sound_limits, sound_buffer, sound_ranks, by_priority, sound_task, sound}
use Rattle.soundness.specs.declared.ranked.Members.TheVariants.{Messages, Waiters}
use Rattle.soundness.specs.Parts.{only_queues, only_tasks, pool_positions, task_positions, queue_ranked, queue_in_order}
use Rattle.soundness.proofs.Cases.{same_truth}
use Rattle.soundness.proofs.RecordTests.{pool-positions, task-positions}

-- ---- A test of two things

module _ {A : Type 0} (f g : ℕ → A → Bool) (l : List A) (d : A) where
  abbrev pair : ℕ → A → Bool
  pair i x = f i x && g i x

  every-and : every (λ i x. f i x && g i x) l ≡ (every f l && every g l)
  every-and =
      same_truth (every pair l) (every f l && every g l)
      (λ e.
      let h : (i : ℕ) → i < length l → (f i (get_or l i d) ≡ true) × (g i (get_or l i d) ≡ true) = λ i k. both (f i (get_or l i d)) (g i (get_or l i d)) (every-at pair l d e i k) in
      and (every-from f l d (λ i k. (h i k).0)) (every-from g l d (λ i k. (h i k).1)))
      (λ e. let (x, y) = both (every f l) (every g l) e in every-from pair l d (λ i k. and (every-at f l d x i k) (every-at g l d y i k)))

three : (l a b c : Bool) → (l implies all_true (a ∷ b ∷ c ∷ [])) ≡ ((l implies a) && ((l implies b) && (l implies c)))
unfolding ◌implies◌
three true a b c = simp (all_cons, all_nil, and-true)
three false a b c = refl

-- ---- The parts together

module _ (q p t : List ℕ) where
  abbrev whole : State
  whole = decode (record { queues = q; pool = p; tasks = t })

  ranks-parts : every (λ slot x. is_live x implies sound_ranks whole slot x) (decode_queues q)
      ≡ (every (queue_ranked Messages (pool_positions p)) (decode_queues q)
      && (every (queue_ranked Waiters (task_positions t)) (decode_queues q) && every (queue_in_order (only_tasks t)) (decode_queues q)))
  unfolding decode sound_ranks by_priority
  ranks-parts =
      mapped-all
      ∙ every-and (queue_ranked Messages (pool_positions p)) (λ slot x. queue_ranked Waiters (task_positions t) slot x && queue_in_order (only_tasks t) slot x) (decode_queues q) (free_queue 0)
      ∙ ap (λ (b : Bool). every (queue_ranked Messages (pool_positions p)) (decode_queues q) && b)
      (every-and (queue_ranked Waiters (task_positions t)) (queue_in_order (only_tasks t)) (decode_queues q) (free_queue 0))
    where
      one : (slot : ℕ) (x : Queue) → (is_live x implies sound_ranks whole slot x)
          ≡ (queue_ranked Messages (pool_positions p) slot x && (queue_ranked Waiters (task_positions t) slot x && queue_in_order (only_tasks t) slot x))
      one slot x = rw (pool-positions p, task-positions t) (three (is_live x) _ _ _)

      mapped-all : every (λ slot x. is_live x implies sound_ranks whole slot x) (decode_queues q)
          ≡ every (λ slot x. queue_ranked Messages (pool_positions p) slot x && (queue_ranked Waiters (task_positions t) slot x && queue_in_order (only_tasks t) slot x)) (decode_queues q)
      mapped-all =
          ap all_true (mapped-cong (λ slot x. is_live x implies sound_ranks whole slot x)
          (λ slot x. queue_ranked Messages (pool_positions p) slot x && (queue_ranked Waiters (task_positions t) slot x && queue_in_order (only_tasks t) slot x)) (decode_queues q) (decode_queues q) (free_queue 0) (free_queue 0) true refl (λ i h. one i (get_or (decode_queues q) i (free_queue 0))))

  -- what the parts of the search say, in its order
  pub sound-parts : (every (λ slot x. sound_queue x) (decode_queues q)
      && (sound_limits (only_queues q)
      && ((every (sound_buffer (only_queues q)) (decode_pool p) && every (queue_ranked Messages (pool_positions p)) (decode_queues q))
      && ((every (sound_task (only_queues q)) (decode_tasks t) && every (queue_ranked Waiters (task_positions t)) (decode_queues q))
      && every (queue_in_order (only_tasks t)) (decode_queues q)))))
      ≡ sound whole
  unfolding sound decode sound_limits limits sound_buffer sound_task
  sound-parts =
      sym (rw ranks-parts
      (order (every (λ slot x. sound_queue x) (decode_queues q)) (sound_limits (only_queues q)) (every (sound_buffer (only_queues q)) (decode_pool p))
      (every (queue_ranked Messages (pool_positions p)) (decode_queues q)) (every (queue_ranked Waiters (task_positions t)) (decode_queues q))
      (every (queue_in_order (only_tasks t)) (decode_queues q)) (every (sound_task (only_queues q)) (decode_tasks t))))
    where
      -- the rules of tasks stand before the ranks of waiters
      order : (a b c d e f g : Bool) → all_true (a ∷ b ∷ c ∷ (d && (e && f)) ∷ g ∷ []) ≡ (a && (b && ((c && d) && ((g && e) && f))))
      order a b c d e f g =
          simp (all_cons, all_nil, and-true, and_assoc)
          (ap (λ (x : Bool). a && (b && (c && (d && x)))) (sym (and_assoc e f g) ∙ and_comm (e && f) g))
