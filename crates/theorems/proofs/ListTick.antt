-- The tick on the queues as lists. Assumes nothing.
use Prim.Native.Nat.{ℕ, zero, suc, pred, ◌+◌, ◌-◌, ◌≤◌, ◌<◌}
use native.Mathlib.Nat.{zero-add}
use native.Mathlib.Omega.{arith}
use mathlib.Core.Path.{◌≡◌, refl, sym, ap, ◌∙◌, subst}
use mathlib.Core.Bool.{Bool, true, false, not, ◌&&◌, ◌||◌, and-true, and-false, false≢true}
use mathlib.Core.Logic.{⊎_elim}
use mathlib.Core.List.{List, [], ◌∷◌, map}
use lib.Dec.{eqb}
use lib.ListN.{length}
use borrow.Author.Tests.{eqb-true, ne_eqb}
use Rattle.std.specs.Prelude.{if◌then◌else◌}
use Rattle.ranks.specs.Lists.{map_with_index, count_true, keep_if, numbers_from}
use Rattle.records.specs.Layout.{slot_count, task_count}
use Rattle.records.specs.Records.{Queue, Task, State, queue_at, task_at, fresh_task}
use Rattle.records.specs.Changes.{at_index, with_waiters, move_task, with_ticks, ready_with}
use Rattle.records.specs.Status.{TIMEOUT}
use Rattle.specification.specs.Lookup.{leave}
use Rattle.specification.specs.Tick.{expires, is_timed, tick_task, tick_tasks, effect}
use Rattle.theorems.specs.QueueLists.{contents, member, task_after_tick, SameButPosition, expired, TickOnLists}
use Rattle.ranks.proofs.Lists.{at-mapped, length-range, at-range}
use Rattle.ranks.proofs.Tests.{same?}
use Rattle.ranks.proofs.ByRank.{filter-cong, filter-all, filter-filter, alike, by-rank-listed, length-by-rank}
use Rattle.specification.proofs.SoundFacts.{Sized, SoundFacts, tasks-ranked}
use Rattle.theorems.proofs.KeptQueues.{at_here, at_other, at_both}
use Rattle.theorems.proofs.SoundTick.{expires-waits, tick_task-sound}
use Rattle.theorems.proofs.ListSteps.{by_number}
use Rattle.theorems.proofs.ListContents.{same-waiters, same-pool, both-lists, in_some, mask-of, same-task}
use Rattle.theorems.proofs.ListLeave.{leave-lists}

-- ---- A task's record

moves-on : (u v w : Task) → SameButPosition u v → SameButPosition v w → SameButPosition u w
moves-on u v w m n = n ∙ ap (move_task w.position) m

tick-moves : (w w' : Task) → SameButPosition w w' → SameButPosition (task_after_tick w) (task_after_tick w')
unfolding task_after_tick
tick-moves w w' m = subst (λ (v : Task). SameButPosition (task_after_tick w) (task_after_tick v)) (sym m) (go (expires w) (is_timed w))
  where
    go : (b c : Bool)
        → SameButPosition (if b then ready_with TIMEOUT w else if c then with_ticks (w.ticks_left - 1) w else w)
        (if b then ready_with TIMEOUT w else if c then with_ticks (w.ticks_left - 1) (move_task w'.position w) else move_task w'.position w)
    go true c = refl
    go false true = refl
    go false false = refl

-- ---- Some tasks have had their tick

record Ticked (s : State) (had : ℕ → Bool) (s' : State) : Type 0 where
  pool : s'.pool ≡ s.pool
  queues : (i : ℕ) → i < slot_count → queue_at s' i ≡ with_waiters (queue_at s' i).waiters (queue_at s i)
  waiters : (i : ℕ) → i < slot_count → (contents s' i).waiters ≡ keep_if (λ k. not (had k && expires (task_at s k))) (contents s i).waiters
  tasks : (k : ℕ) → k < task_count → SameButPosition (if had k then task_after_tick (task_at s k) else task_at s k) (task_at s' k)

-- what a task's record is, by what the test says of it
task-of : {s s' : State} {had : ℕ → Bool} → Ticked s had s' → (k : ℕ) → k < task_count → (p : Bool) → had k ≡ p
    → SameButPosition (if p then task_after_tick (task_at s k) else task_at s k) (task_at s' k)
task-of {s} {s'} a k h p e = subst (λ (p : Bool). SameButPosition (if p then task_after_tick (task_at s k) else task_at s k) (task_at s' k)) e (a.tasks k h)

-- two tests that say the same of every task keep the same waiters
filter_same : {s : State} → SoundFacts s → (i : ℕ) → i < slot_count → (f h : ℕ → Bool) → ((k : ℕ) → k < task_count → f k ≡ h k)
    → keep_if f (contents s i).waiters ≡ keep_if h (contents s i).waiters
unfolding contents
filter_same {s} g i i< f h same =
    let table = tasks-ranked s g i i< in
    filter-cong f h _ 0 (λ k lt. same _ ((by-rank-listed table).entry k 0 (omega (arith, length-by-rank table))).0)

-- one after the other, none of them twice
in-turn : {s s₁ s₂ : State} {had more : ℕ → Bool} → SoundFacts s → ((k : ℕ) → k < task_count → had k ≡ true → more k ≡ false) → Ticked s had s₁ → Ticked s₁ more s₂
    → Ticked s (λ k. had k || more k) s₂
in-turn {s} {s₁} {s₂} {had} {more} g once a b =
    record {
      pool = b.pool ∙ a.pool;
      queues = λ i i<. b.queues i i< ∙ ap (with_waiters (queue_at s₂ i).waiters) (a.queues i i<);
      waiters =
          λ i i<.
          b.waiters i i< ∙ ap (keep_if (λ k. not (more k && expires (task_at s₁ k)))) (a.waiters i i<)
          ∙ filter-filter _ _ (contents s i).waiters
          ∙ filter_same g i i< _ _ (λ k h. left k h (had k) (more k) refl refl);
      tasks = λ k h. both k h (had k) (more k) refl refl;
    }
  where
    left : (k : ℕ) → k < task_count → (p q : Bool) → had k ≡ p → more k ≡ q
        → (not (p && expires (task_at s k)) && not (q && expires (task_at s₁ k))) ≡ not ((p || q) && expires (task_at s k))
    left k h true true e f = absurd (false≢true (sym (once k h e) ∙ f))
    left k h true false e f = and-true (not (expires (task_at s k)))
    left k h false q e f = ap (λ (b : Bool). not (q && b)) (ap expires (task-of a k h false e))

    both : (k : ℕ) → k < task_count → (p q : Bool) → had k ≡ p → more k ≡ q
        → SameButPosition (if p || q then task_after_tick (task_at s k) else task_at s k) (task_at s₂ k)
    both k h true q e f = moves-on (task_after_tick (task_at s k)) _ _ (task-of a k h true e) (task-of b k h false (once k h e))
    both k h false true e f = moves-on (task_after_tick (task_at s k)) _ _ (tick-moves (task_at s k) _ (task-of a k h false e)) (task-of b k h true f)
    both k h false false e f = moves-on (task_at s k) _ _ (task-of a k h false e) (task-of b k h false f)

-- ---- One task

module _ {s : State} (g : SoundFacts s) (t : ℕ) (t< : t < task_count) where
  -- what the test for one task says of each
  same_test : (b : Bool) → expires (task_at s t) ≡ b → (k : ℕ) → eqb k t && b ≡ eqb k t && expires (task_at s k)
  same_test b e k =
      ⊎_elim (λ z. ap (λ (c : Bool). eqb k t && c) (sym e ∙ ap (λ (n : ℕ). expires (task_at s n)) (sym z))) (λ ne. rw (ne_eqb k t ne)) (same? k t)

  -- f is done to its record, and that is what a tick does
  as-ticked : (f : Task → Task) → f (task_at s t) ≡ task_after_tick (task_at s t) → (k : ℕ)
      → at_index t f k (task_at s k) ≡ at_index t task_after_tick k (task_at s k)
  as-ticked f mine k =
      at_both (λ k w. w ≡ at_index t task_after_tick k (task_at s k)) t f k (task_at s k)
      (λ e. subst (λ (n : ℕ). f (task_at s n) ≡ at_index t task_after_tick n (task_at s n)) (sym e) (mine ∙ sym (at_here t task_after_tick (task_at s t))))
      (λ ne. sym (at_other t task_after_tick k (task_at s k) ne))

  had-tick : (s' : State) (f : Task → Task) (b : Bool) → expires (task_at s t) ≡ b → f (task_at s t) ≡ task_after_tick (task_at s t)
      → s'.pool ≡ s.pool → ((i : ℕ) → i < slot_count → queue_at s' i ≡ with_waiters (queue_at s' i).waiters (queue_at s i))
      → ((i : ℕ) → i < slot_count → (contents s' i).waiters ≡ keep_if (λ k. not (eqb k t && b)) (contents s i).waiters)
      → ((k : ℕ) → k < task_count → SameButPosition (at_index t f k (task_at s k)) (task_at s' k)) → Ticked s (λ k. eqb k t) s'
  had-tick s' f b e mine pool queues waiters tasks =
      record {
        pool = pool;
        queues = queues;
        waiters = λ i i<. waiters i i< ∙ filter_same g i i< _ _ (λ k h. ap not (same_test b e k));
        tasks = λ k h. subst (λ (w : Task). SameButPosition w (task_at s' k)) (as-ticked f mine k) (tasks k h);
      }

  tick-leaves : (slot : ℕ) → slot < slot_count → (task_at s t).position.queue ≡ suc slot → expires (task_at s t) ≡ true
      → Sized (leave s t slot (task_at s t).position.rank (ready_with TIMEOUT))
      → Ticked s (λ k. eqb k t) (leave s t slot (task_at s t).position.rank (ready_with TIMEOUT))
  unfolding task_after_tick
  tick-leaves slot slot< q e z' =
      let l = leave-lists g t slot (task_at s t).position.rank (ready_with TIMEOUT) slot< (t<, q, refl) (λ w. refl) z' in
      had-tick _ (ready_with TIMEOUT) true e (rw e) l.pool l.queues
      (λ i i<. l.waiters i i< ∙ filter_same g i i< _ _ (λ k h. ap not (sym (and-true (eqb k t))))) l.tasks

  -- no task leaves
  tick-stays : (s' : State) (f : Task → Task) → expires (task_at s t) ≡ false → f (task_at s t) ≡ task_after_tick (task_at s t)
      → s'.pool ≡ s.pool → ((i : ℕ) → i < slot_count → queue_at s' i ≡ queue_at s i) → ((i : ℕ) → i < slot_count → (contents s' i).waiters ≡ (contents s i).waiters)
      → ((k : ℕ) → k < task_count → task_at s' k ≡ at_index t f k (task_at s k)) → Ticked s (λ k. eqb k t) s'
  tick-stays s' f e mine pool queues waiters tasks =
      had-tick s' f false e mine pool (λ i i<. rw (queues i i<) refl)
      (λ i i<. waiters i i< ∙ sym (filter-all _ _ 0 (λ k h. ap not (and-false (eqb _ t))))) (λ k h. same-task _ _ (tasks k h))

  abbrev leaving : ℕ → State
  leaving queue = leave s t (pred queue) (task_at s t).position.rank (ready_with TIMEOUT)

  abbrev fewer : Task → Task
  fewer = with_ticks ((task_at s t).ticks_left - 1)

  abbrev waits-on : State
  waits-on = record { queues = s.queues; pool = s.pool; tasks = map_with_index (at_index t fewer) s.tasks }

  tick-waits-on : expires (task_at s t) ≡ false → is_timed (task_at s t) ≡ true → Sized waits-on → Ticked s (λ k. eqb k t) waits-on
  unfolding task_after_tick
  tick-waits-on e f z' =
      tick-stays waits-on fewer e (rw (e, f)) refl (λ i h. refl)
      (λ i i<.
      same-waiters g i i< waits-on z' refl
      (λ j h. alike (ap (λ (w : Task). w.position) (after j h) ∙ at_both (λ _ w. w.position ≡ (task_at s j).position) t fewer j (task_at s j) (λ _. refl) (λ _. refl))))
      after
    where
      after : (j : ℕ) → j < task_count → task_at waits-on j ≡ at_index t fewer j (task_at s j)
      after j h = at-mapped (at_index t fewer) s.tasks j (fresh_task 1) (fresh_task 1) (omega (arith, g.sized.tasks))

  tick-one : Sized (tick_task s t) → Ticked s (λ k. eqb k t) (tick_task s t)
  unfolding tick_task task_after_tick
  tick-one = go (expires (task_at s t)) (is_timed (task_at s t)) refl refl
    where
      go : (b c : Bool) → expires (task_at s t) ≡ b → is_timed (task_at s t) ≡ c
          → Sized (if b then leaving (task_at s t).position.queue else if c then waits-on else s)
          → Ticked s (λ k. eqb k t) (if b then leaving (task_at s t).position.queue else if c then waits-on else s)
      go true c e f z' =
          let w = expires-waits s g t t< e in
          subst (λ (q : ℕ). Sized (leaving q) → Ticked s (λ k. eqb k t) (leaving q)) (sym w.queue) (tick-leaves w.slot w.slot_below w.queue e) z'
      go false true e f z' = tick-waits-on e f z'
      go false false e f z' =
          tick-stays s (λ w. w) e (rw (e, f)) refl (λ i h. refl) (λ i h. refl) (λ k h. at_both (λ k w. task_at s k ≡ w) t (λ w. w) k _ (λ _. refl) (λ _. refl))

-- ---- All tasks in turn

-- which tasks are in a range
before-range : (k i n : ℕ) → k < i → member k (numbers_from i n) ≡ false
unfolding member numbers_from
before-range k i zero h = refl
before-range k i (suc n) h = rw (ne_eqb k i (λ z. omega arith)) (before-range k (suc i) n (omega arith))

in-range : (k : ℕ) → k < task_count → member k (numbers_from 0 task_count) ≡ true
in-range k h = in_some (numbers_from 0 task_count) k 0 k (omega (arith, length-range 0 task_count)) (at-range 0 task_count k 0 h ∙ zero-add k)

tick-range : (s : State) → SoundFacts s → (i n : ℕ) → i + n ≤ task_count → Ticked s (λ k. member k (numbers_from i n)) (tick_tasks s (numbers_from i n))
unfolding tick_tasks numbers_from member
tick-range s g i zero h =
    record { pool = refl; queues = λ i i<. refl; waiters = λ i i<. sym (filter-all _ _ 0 (λ k h. refl)); tasks = λ k h. refl }
tick-range s g i (suc n) h =
    let g' : SoundFacts (tick_task s i) = tick_task-sound s g i (omega arith) in
    in-turn g (λ k lt e. subst (λ (j : ℕ). member j (numbers_from (suc i) n) ≡ false) (sym (eqb-true k i e)) (before-range i (suc i) n (omega arith)))
    (tick-one g i (omega arith) g'.sized) (tick-range (tick_task s i) g' (suc i) n (omega arith))

-- ---- The tasks that expire

module _ (f : ℕ → Bool) where
  count-filter : (l : List ℕ) → count_true (map f l) ≡ length (keep_if f l)
  unfolding count_true keep_if
  count-filter [] = refl
  count-filter (x ∷ l) = go (f x) (count-filter l)
    where
      go : (b : Bool) → count_true (map f l) ≡ length (keep_if f l)
          → (elim b [ true ↦ suc (count_true (map f l)) | false ↦ count_true (map f l) ]) ≡ length {A = ℕ} (elim b [ true ↦ x ∷ keep_if f l | false ↦ keep_if f l ])
      go true ih = ap suc ih
      go false ih = ih

  in-filter : (l : List ℕ) (k : ℕ) → member k (keep_if f l) ≡ member k l && f k
  unfolding keep_if member
  in-filter [] k = refl
  in-filter (x ∷ l) k = go (f x) (eqb k x) refl refl (in-filter l k)
    where
      go : (b c : Bool) → f x ≡ b → eqb k x ≡ c → member k (keep_if f l) ≡ member k l && f k
          → member k (elim b [ true ↦ x ∷ keep_if f l | false ↦ keep_if f l ]) ≡ (c || member k l) && f k
      go true true e q ih = ap (λ (b : Bool). b || member k (keep_if f l)) q ∙ sym (ap f (eqb-true k x q) ∙ e)
      go true false e q ih = ap (λ (b : Bool). b || member k (keep_if f l)) q ∙ ih
      go false true e q ih =
          let fails : f k ≡ false = ap f (eqb-true k x q) ∙ e in
          ih ∙ ap (λ (b : Bool). member k l && b) fails ∙ and-false (member k l) ∙ sym fails
      go false false e q ih = ih

-- ---- The tick

pub tick-lists : (s : State) → SoundFacts s → TickOnLists s (effect s)
unfolding effect
tick-lists s g =
    record {
      lists =
          λ i i<.
          both-lists (same-pool s _ i all.pool (ap (λ (q : Queue). q.pending) (all.queues i i<)))
          (all.waiters i i< ∙ filter_same g i i< _ _ (λ k h. ap (λ (b : Bool). not (b && expires (task_at s k))) (in-range k h)));
      status = refl;
      value = ap count_true (by_number _ (λ k. expires (task_at s k)) s.tasks (fresh_task 1) false task_count g.sized.tasks (λ k h. refl)) ∙ count-filter _ (numbers_from 0 task_count);
      woken =
          mask-of _ s.tasks (fresh_task 1) (expired s) g.sized.tasks
          (λ k h. sym (in-filter (λ k. expires (task_at s k)) (numbers_from 0 task_count) k ∙ ap (λ (b : Bool). b && expires (task_at s k)) (in-range k h)));
      tasks = λ k h. rw (in-range k h) at (all.tasks k h);
      queues = all.queues;
      pool = all.pool;
    }
  where
    all : Ticked s (λ k. member k (numbers_from 0 task_count)) (tick_tasks s (numbers_from 0 task_count))
    all = tick-range s g 0 task_count (omega arith)
