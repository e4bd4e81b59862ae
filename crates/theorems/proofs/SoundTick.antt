-- A tick leaves sound tables. Assumes nothing.
use Prim.Native.Nat.{ℕ, zero, suc, pred, ◌+◌, ◌-◌, ◌≤◌, ◌<◌}
use native.Mathlib.Omega.{arith}
use mathlib.Core.Path.{◌≡◌, refl, sym, ap, ◌∙◌, subst}
use mathlib.Core.Bool.{Bool, true, false}
use mathlib.Core.Logic.{◌⊎◌, ⊎_elim}
use mathlib.Core.List.{List, [], ◌∷◌}
use borrow.Author.Tests.{eqb-true}
use Rattle.std.specs.Prelude.{if◌then◌else◌}
use Rattle.ranks.specs.Lists.{map_with_index, numbers_from}
use Rattle.ranks.specs.Position.{Position}
use Rattle.records.specs.Layout.{task_count}
use Rattle.records.specs.Records.{Task, State, queue_at, buffer_at, task_at, fresh_task, is_waiting, waiting_state}
use Rattle.specification.specs.Sound.{task_rules, sound_task, slot_in}
use Rattle.records.specs.Status.{TIMEOUT}
use Rattle.records.specs.Changes.{at_index, ready_with, with_ticks}
use Rattle.specification.specs.Lookup.{leave}
use Rattle.specification.specs.Tick.{expires, is_timed, tick_task, tick_tasks, effect}
use Rattle.ranks.proofs.Lists.{at-mapped, length-mapped}
use Rattle.ranks.proofs.Tests.{both}
use Rattle.specification.proofs.Rules.{Ready, Waiting, task-rules, ready-sound, waiting-sound}
use Rattle.ranks.proofs.Ranks.{frame}
use Rattle.specification.proofs.SoundFacts.{Sized, SoundFacts}
use Rattle.theorems.proofs.KeptQueues.{at_both, same, waiting-like, waiting-same, buffer-kept, limits-kept}
use Rattle.theorems.proofs.SoundLeave.{leave-sound}
use Rattle.theorems.proofs.SoundSubmit.{ready_with-ready}

-- ---- A task whose ticks change

module _ (s : State) (g : SoundFacts s) (t n : ℕ) (t< : t < task_count) (zero-stays : (task_at s t).ticks_left ≡ 0 → n ≡ 0) where
  abbrev pub ticked : State
  ticked = record { queues = s.queues; pool = s.pool; tasks = map_with_index (at_index t (with_ticks n)) s.tasks }

  after : (j : ℕ) → j < task_count → task_at ticked j ≡ at_index t (with_ticks n) j (task_at s j)
  after j h = at-mapped (at_index t (with_ticks n)) s.tasks j (fresh_task 1) (fresh_task 1) (omega (arith, g.sized.tasks))

  -- what does not look at the ticks stays
  same-field : {B : Type 0} (F : Task → B) → ((w : Task) → F (with_ticks n w) ≡ F w) → (j : ℕ) → j < task_count → F (task_at ticked j) ≡ F (task_at s j)
  same-field F e j h =
      ap F (after j h) ∙ at_both (λ _ w. F w ≡ F (task_at s j)) t (with_ticks n) j (task_at s j) (λ _. e (task_at s j)) (λ _. refl)

  position' : (j : ℕ) → j < task_count → (task_at ticked j).position ≡ (task_at s j).position
  position' = same-field (λ w. w.position) (λ w. refl)

  task' : (j : ℕ) → j < task_count → sound_task ticked j (task_at ticked j) ≡ true
  unfolding task_rules
  task' j h =
      subst (λ (w : Task). sound_task ticked j w ≡ true) (sym (after j h))
      (at_both (λ k w. sound_task ticked k w ≡ true) t (with_ticks n) j (task_at s j)
      (λ e. ⊎_elim (λ r. ready-sound ticked j _ (on-ready e r)) (λ w. waiting-sound ticked j _ (on-waiting w)) rules)
      (λ ne. ⊎_elim (λ r. ready-sound ticked j _ r) (λ w. waiting-sound ticked j _ (waiting-same s ticked j _ w (same _))) rules))
    where
      rules : Ready (task_at s j) ⊎ Waiting s j (task_at s j)
      rules = task-rules s j _ (g.task j h)

      on-ready : j ≡ t → Ready (task_at s j) → Ready (with_ticks n (task_at s j))
      on-ready e r =
          record {
            rules = r.rules;
            state = r.state;
            queue = r.queue;
            rank = r.rank;
            ticks_left = zero-stays (subst (λ (k : ℕ). (task_at s k).ticks_left ≡ 0) e r.ticks_left);
            status = r.status;
            message_length = r.message_length;
          }

      on-waiting : Waiting s j (task_at s j) → Waiting ticked j (with_ticks n (task_at s j))
      on-waiting w = waiting-like s ticked j _ _ w (same _) w.rules refl refl refl refl

  sized' : Sized ticked
  sized' = record { queues = g.sized.queues; pool = g.sized.pool; tasks = length-mapped _ s.tasks ∙ g.sized.tasks }

  pub ticked-sound : SoundFacts ticked
  ticked-sound =
      record {
        sized = sized';
        queue = g.queue;
        limit =
            λ p h.
            subst (λ (k : ℕ). k ≤ Rattle.records.specs.Split.share_limit p)
            (sym (limits-kept s ticked g.sized sized' (λ i h. same (queue_at s i)) p)) (g.limit p h);
        buffer = λ b h. buffer-kept s ticked b (buffer_at s b) (λ i h. same (queue_at s i)) (g.buffer b h);
        messages = g.messages;
        waiters =
            λ i h.
            frame task_count (λ j. (task_at s j).position) (λ j. (task_at ticked j).position) i (queue_at s i).waiters (λ j hj _. position' j hj)
            (λ j hj e. sym (ap (λ (p : Position). p.queue) (position' j hj)) ∙ e) (g.waiters i h);
        order =
            λ i h p a b ha hb qa qb lt.
            let ea = position' a ha in
            let eb = position' b hb in
            let pa = same-field (λ w. w.priority) (λ w. refl) a ha in
            let pb = same-field (λ w. w.priority) (λ w. refl) b hb in
            let ra = ap (λ (p : Position). p.rank) ea in
            let rb = ap (λ (p : Position). p.rank) eb in
            let o =
            g.order i h p a b ha hb (sym (ap (λ (p : Position). p.queue) ea) ∙ qa) (sym (ap (λ (p : Position). p.queue) eb) ∙ qb) (omega arith) in
            omega arith;
        task = task';
      }

-- ---- One task's tick

-- a task that expires waits at its place
pub expires-waits : (s : State) → SoundFacts s → (t : ℕ) → t < task_count → expires (task_at s t) ≡ true → Waiting s t (task_at s t)
expires-waits s g t h e =
    ⊎_elim
    (λ r. absurd (let a : (task_at s t).state ≡ waiting_state = eqb-true _ _ (both (is_waiting (task_at s t)) _ e).0 in let b = r.state in omega arith))
    (λ w. w) (task-rules s t _ (g.task t h))

pub tick_task-sound : (s : State) → SoundFacts s → (t : ℕ) → t < task_count → SoundFacts (tick_task s t)
unfolding tick_task task_rules
tick_task-sound s g t h = go (expires (task_at s t)) refl
  where
    timed : (b : Bool) → SoundFacts (if b then record { queues = s.queues; pool = s.pool; tasks = map_with_index (at_index t (with_ticks ((task_at s t).ticks_left - 1))) s.tasks } else s)
    timed true = ticked-sound s g t ((task_at s t).ticks_left - 1) h (λ e. omega arith)
    timed false = g

    leaves : Waiting s t (task_at s t) → SoundFacts (leave s t (slot_in (task_at s t).position) (task_at s t).position.rank (ready_with TIMEOUT))
    leaves w =
        subst (λ (k : ℕ). SoundFacts (leave s t (pred k) (task_at s t).position.rank (ready_with TIMEOUT))) (sym w.queue)
        (leave-sound s g t w.slot (ready_with TIMEOUT) h w.slot_below w.queue
        (ready_with-ready s g t h TIMEOUT refl)
        (λ w. refl))

    go : (b : Bool) → expires (task_at s t) ≡ b
        → SoundFacts
        (if b then leave s t (slot_in (task_at s t).position) (task_at s t).position.rank (ready_with TIMEOUT)
        else if is_timed (task_at s t)
        then record { queues = s.queues; pool = s.pool; tasks = map_with_index (at_index t (with_ticks ((task_at s t).ticks_left - 1))) s.tasks }
        else s)
    go true e = leaves (expires-waits s g t h e)
    go false e = timed (is_timed (task_at s t))

-- ---- All tasks in turn

abbrev pub Below : ℕ → List ℕ → Type 0
Below n [] = Unit {0}
Below n (t ∷ ts) = (t < n) × Below n ts

pub below-range : (N i n : ℕ) → i + n ≤ N → Below N (numbers_from i n)
unfolding numbers_from
below-range N i zero h = tt
below-range N i (suc n) h = (omega arith, below-range N (suc i) n (omega arith))

pub tick_tasks-sound : (s : State) (ts : List ℕ) → SoundFacts s → Below task_count ts → SoundFacts (tick_tasks s ts)
unfolding tick_tasks
tick_tasks-sound s [] g b = g
tick_tasks-sound s (t ∷ ts) g b = tick_tasks-sound (tick_task s t) ts (tick_task-sound s g t b.0) b.1

pub tick-sound : (s : State) → SoundFacts s → SoundFacts (effect s).after
unfolding effect
tick-sound s g = tick_tasks-sound s (numbers_from 0 task_count) g (below-range task_count 0 task_count (omega arith))
