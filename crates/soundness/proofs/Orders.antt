-- The order of waiters by priority, as the code tests it. Assumes nothing.
use Prim.Native.Nat.{ℕ, suc, ◌+◌, ◌≤◌, ◌<◌}
use native.Mathlib.Numerals.{add-one}
use native.Mathlib.Omega.{arith}
use mathlib.Core.Path.{◌≡◌, refl, sym, ap, subst, ◌∙◌}
use mathlib.Core.Bool.{Bool, true, false, ◌||◌, not, true≢false}
use mathlib.Core.Logic.{⊎_elim}
use mathlib.Core.List.{List}
use lib.Dec.{ltb}
use lib.ListN.{length, get_or, set, take}
use lib.Seq.{get_or-set_same, get_or-set_other, get_or-take, length-take-le}
use Rattle.std.specs.Bool.{MatchBool}
use Rattle.std.specs.List.Sorted.{IsNonDecreasing}
use borrow.Author.Tests.{eqb-true, eq-eqb, ltb-true, lt-ltb, leb-true, le-leb}
use Rattle.ranks.specs.Lists.{◌implies◌}
use Rattle.ranks.specs.Position.{Position}
use Rattle.ranks.specs.Steps.{ranked}
use Rattle.ranks.proofs.Tests.{either, both, and, lt-or-ge}
use Rattle.ranks.proofs.Lists.{every-at, every-from}
use Rattle.ranks.proofs.Ranks.{Ranked}
use Rattle.ranks.proofs.Ranked.{implied, implying}
use Rattle.ranks.proofs.ByRank.{held-bound}
use Rattle.records.specs.Layout.{task_count, task_width}
use Rattle.records.specs.Records.{Queue, Task, fresh_task, is_live, has_priority}
use Rattle.records.specs.Bytes.{decode_task, decode_tasks, decode_task_at}
use Rattle.records.specs.TaskHeads.{head_of}
use Rattle.records.specs.declared.task.TaskHead.{TaskHead}
use Rattle.records.proofs.Writing.{length-decoded, at_table}
use Rattle.specification.specs.Sound.{by_priority}
use Rattle.specification.proofs.SoundFacts.{rank-each}
use Rattle.soundness.specs.declared.ranked.Members.TheVariants.{Waiters}
use Rattle.soundness.specs.Parts.{only_tasks, task_positions, queue_ranked, queue_in_order, OneAtRank, PrioritiesAtRanks}
use Rattle.soundness.proofs.RecordTests.{task-positions}

-- ---- The tasks of a queue

module _ (t : List ℕ) where
  abbrev W : ℕ → Task
  W j = get_or (decode_tasks t) j (fresh_task 1)

  size : length (decode_tasks t) ≡ task_count
  size = length-decoded decode_task task_count task_width t

  pub waiters-ranked : (slot n : ℕ) → ranked slot n (task_positions t) ≡ true → Ranked task_count (λ j. (W j).position) slot n
  waiters-ranked slot n is =
      rank-each (λ (w : Task). w.position) (decode_tasks t) (fresh_task 1) size slot n (subst (λ (ps : List Position). ranked slot n ps ≡ true) (task-positions t) is)

  -- at most all tasks wait in a queue
  pub ranks-fit : (slot n : ℕ) → ranked slot n (task_positions t) ≡ true → n ≤ task_count
  ranks-fit slot n is = held-bound {position = λ (w : Task). w.position} {a = fresh_task 1} {xs = decode_tasks t} (record { long = size; ranks = waiters-ranked slot n is })

  module _ (slot : ℕ) where
    -- every two that wait in the queue are in order
    pub in_order : ((i j : ℕ) → i < task_count → j < task_count → (W i).position.queue ≡ suc slot → (W j).position.queue ≡ suc slot
        → (W i).position.rank < (W j).position.rank → (W i).priority ≤ (W j).priority) → by_priority (only_tasks t) slot ≡ true
    unfolding by_priority
    in_order h =
        every-from _ (decode_tasks t) (fresh_task 1)
        (λ i hi. implying _ _ (λ qi. every-from _ (decode_tasks t) (fresh_task 1)
        (λ j hj. implying _ _ (λ b.
        let (qj, lt) = both _ _ b in
        le-leb _ _ (h i j (omega (arith, size)) (omega (arith, size)) (eqb-true _ _ qi) (eqb-true _ _ qj) (ltb-true _ _ lt))))))

    -- two that are not
    pub out_of_order : (i j : ℕ) → i < task_count → j < task_count → (W i).position.queue ≡ suc slot → (W j).position.queue ≡ suc slot
        → (W i).position.rank < (W j).position.rank → (W j).priority < (W i).priority → by_priority (only_tasks t) slot ≡ false
    unfolding by_priority
    out_of_order i j hi hj qi qj lt worse = ⊎_elim (λ is. absurd (wrong is)) (λ f. f) (either (by_priority (only_tasks t) slot))
      where
        wrong : by_priority (only_tasks t) slot ≡ true → ⊥
        wrong is =
            let inner = implied (every-at _ (decode_tasks t) (fresh_task 1) is i (omega (arith, size))) (eq-eqb _ _ qi) in
            let le : (W i).priority ≤ (W j).priority = leb-true _ _ (implied (every-at _ (decode_tasks t) (fresh_task 1) inner j (omega (arith, size))) (and (eq-eqb _ _ qj) (lt-ltb _ _ lt))) in
            omega (arith, le)

    -- ---- Priorities by rank

    -- the head of task k is read, and noted if it waits in the queue
    module _ (one : OneAtRank slot (decode_tasks t)) (k : ℕ) (hk : k < task_count) (l : List ℕ) (noted : PrioritiesAtRanks slot k (decode_tasks t) l)
        (h : TaskHead) (read : h ≡ head_of (decode_task_at k t)) where
      same : h ≡ head_of (W k)
      same = read ∙ sym (ap head_of (at_table decode_task task_count task_width t k hk (fresh_task 1)))

      pub note-one : h.queue ≡ slot + 1 → h.rank < length l → PrioritiesAtRanks slot (k + 1) (decode_tasks t) (set l h.rank h.priority)
      note-one here inside j hj q =
          let rank : h.rank ≡ (W k).position.rank = ap (λ (x : TaskHead). x.rank) same in
          ⊎_elim
          (λ (lt : j < k).
          get_or-set_other l h.rank (W j).position.rank h.priority 0
          (λ (e : (W j).position.rank ≡ h.rank).
          let x : j ≡ k = one j k (omega arith) hk q (sym (ap (λ (x : TaskHead). x.queue) same) ∙ here ∙ add-one slot) (e ∙ rank) in omega arith) ∙ noted j lt q)
          (λ (ge : k ≤ j).
          let x : j ≡ k = omega arith in
          subst (λ (i : ℕ). get_or (set l h.rank h.priority) (W i).position.rank 0 ≡ (W i).priority) (sym x)
          (subst (λ (r : ℕ). get_or (set l h.rank h.priority) r 0 ≡ (W k).priority) rank
          (get_or-set_same l h.rank h.priority 0 inside ∙ ap (λ (x : TaskHead). x.priority) same))) (lt-or-ge j k)

      pub note-none : (h.queue ≡ slot + 1 → ⊥) → PrioritiesAtRanks slot (k + 1) (decode_tasks t) l
      note-none elsewhere j hj q =
          ⊎_elim (λ (lt : j < k). noted j lt q)
          (λ (ge : k ≤ j).
          absurd (elsewhere (ap (λ (x : TaskHead). x.queue) same ∙ subst (λ (i : ℕ). (W i).position.queue ≡ suc slot) (let x : j ≡ k = omega arith in x) q ∙ sym (add-one slot)))) (lt-or-ge j k)

    module _ (n : ℕ) (is : ranked slot n (task_positions t) ≡ true) where
      r : Ranked task_count (λ j. (W j).position) slot n
      r = waiters-ranked slot n is

      pub one-at-rank : OneAtRank slot (decode_tasks t)
      one-at-rank i j hi hj qi qj x = r.one i j hi hj qi qj x

      pub few-in-order : n < 2 → by_priority (only_tasks t) slot ≡ true
      few-in-order h = in_order (λ i j hi hj qi qj lt. absurd (omega (arith, r.below j hj qj)))

      -- the first n priorities by rank never fall exactly if the waiters are in order
      module _ (l : List ℕ) (noted : PrioritiesAtRanks slot task_count (decode_tasks t) l) (long : n ≤ length l) where
        ranks-long : length (take n l) ≡ n
        ranks-long = length-take-le n l long

        priority-at : (j : ℕ) → j < task_count → (W j).position.queue ≡ suc slot → get_or (take n l) (W j).position.rank 0 ≡ (W j).priority
        priority-at j hj qj = get_or-take n l (W j).position.rank 0 (r.below j hj qj) ∙ noted j hj qj

        pub order-sorted : (b : Bool) → MatchBool b (IsNonDecreasing (take n l)) ((k : ℕ) × (k + 1 < length (take n l)) × ((d : ℕ) → get_or (take n l) (k + 1) d < get_or (take n l) k d))
            → b ≡ by_priority (only_tasks t) slot
        order-sorted true rising =
            sym (in_order (λ i j hi hj qi qj lt.
            let le : get_or (take n l) (W i).position.rank 0 ≤ get_or (take n l) (W j).position.rank 0 =
            rising (W i).position.rank (W j).position.rank 0 (omega arith) (omega (arith, ranks-long, r.below j hj qj)) in
            omega (arith, priority-at i hi qi, priority-at j hj qj)))
        order-sorted false (k, h, falls) =
            let (i, hi, qi, ri) = r.some k (omega (arith, ranks-long)) in
            let (j, hj, qj, rj) = r.some (k + 1) (omega (arith, ranks-long)) in
            let pi : get_or (take n l) k 0 ≡ (W i).priority = ap (λ (x : ℕ). get_or (take n l) x 0) (sym ri) ∙ priority-at i hi qi in
            let pj : get_or (take n l) (k + 1) 0 ≡ (W j).priority = ap (λ (x : ℕ). get_or (take n l) x 0) (sym rj) ∙ priority-at j hj qj in
            sym (out_of_order i j hi hj qi qj (omega arith) (omega (arith, falls 0)))

-- ---- One queue

module _ (t : List ℕ) (slot : ℕ) (q : Queue) {live priority : Bool} (l : live ≡ is_live q) (p : priority ≡ has_priority q) (ranks : queue_ranked Waiters (task_positions t) slot q ≡ true) where
  -- a queue with fewer than two waiters, or one that is free or without PRIORITY
  pub order-skipped : ((ltb q.waiters 2 || not live) || not priority) ≡ true → true ≡ queue_in_order (only_tasks t) slot q
  order-skipped e =
      sym (implying _ _ (λ (is : is_live q ≡ true). implying _ _ (λ (has : has_priority q ≡ true).
      few-in-order t slot q.waiters (implied ranks is) (ltb-true _ _ (few (ltb q.waiters 2) (rw (l ∙ is, p ∙ has) at e))))))
    where
      few : (w : Bool) → ((w || not true) || not true) ≡ true → w ≡ true
      few true h = refl
      few false h = h

  module _ (e : ((ltb q.waiters 2 || not live) || not priority) ≡ false) where
    asked : (a b c : Bool) → ((a || not b) || not c) ≡ false → (b ≡ true) × (c ≡ true)
    asked true b c h = absurd (true≢false h)
    asked false true true h = (refl, refl)
    asked false true false h = absurd (true≢false h)
    asked false false c h = absurd (true≢false h)

    pub waiters-ranks : ranked slot q.waiters (task_positions t) ≡ true
    waiters-ranks = implied ranks (sym l ∙ (asked _ live priority e).0)

    pub order-tested : by_priority (only_tasks t) slot ≡ queue_in_order (only_tasks t) slot q
    unfolding ◌implies◌
    order-tested = let (x, y) = asked _ live priority e in rw (sym l ∙ x, sym p ∙ y) refl
