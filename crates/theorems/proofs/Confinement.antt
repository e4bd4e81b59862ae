-- A call that a confined share may make, and a tick, leave it confined. Assumes nothing.
use Prim.Native.Nat.{ℕ, suc, ◌-◌, ◌≤◌, ◌<◌}
use native.Mathlib.Omega.{arith}
use mathlib.Core.Path.{◌≡◌, refl, sym, ap, ◌∙◌}
use mathlib.Core.Bool.{Bool, true, false, ◌&&◌}
use mathlib.Core.Logic.{◌⊎◌, inl, inr, ⊎_elim}
use mathlib.Core.List.{List, [], ◌∷◌}
use lib.Dec.{leb}
use lib.ListN.{get_or}
use borrow.Author.Tests.{eqb-true, leb-false, not-true}
use Rattle.std.specs.Prelude.{if◌then◌else◌}
use Rattle.ranks.specs.Lists.{map_with_index, numbers_from, within}
use Rattle.ranks.specs.Position.{Position, no_queue}
use Rattle.records.specs.Layout.{slot_of, task_count, slot_count}
use Rattle.records.specs.Split.{share_of_slot, share_of_task}
use Rattle.records.specs.Records.{Queue, Task, State, task_at, free_queue, fresh_task}
use Rattle.records.specs.Changes.{at_index, with_ticks, ready_with, with_message}
use Rattle.records.specs.Status.{TIMEOUT, OBJECT-WAS-DELETED}
use Rattle.specification.specs.Sound.{slot_in}
use Rattle.specification.specs.Call.{Operation, Call, delete, send, urgent, broadcast, receive, get_number_pending, flush, create, ident, on_queue, call, tick}
use Rattle.specification.specs.Lookup.{first_waiter, has_waiter, first_message, has_message, leave, without_waiters}
use Rattle.specification.specs.Submit.{free_buffer_of, delivered, enqueued}
use Rattle.specification.specs.Receive.{received, wait_rank, waiting}
use Rattle.specification.specs.Tick.{expires, is_timed, tick_task, tick_tasks}
use Rattle.specification.specs.Step.{directive_refusals, operation_effect, effect}
use Rattle.theorems.specs.Noninterference.{confined_directive, is_confined}
use Rattle.ranks.proofs.Lists.{at-mapped}
use Rattle.ranks.proofs.Ranks.{out-queue, in-queue}
use Rattle.specification.proofs.Accepted.{Accepted, accepted-facts, creatable}
use Rattle.specification.proofs.OnRecords.{call_on_records}
use Rattle.specification.proofs.Refused.{refused-or}
use Rattle.theorems.proofs.KeptQueues.{if-at, at_both}
use Rattle.theorems.proofs.SoundCall.{call-sound}
use Rattle.theorems.proofs.SoundCleared.{gone-cases}
use Rattle.theorems.proofs.SoundTick.{tick_task-sound, Below, below-range}
use Rattle.theorems.proofs.Equivalent.{ConfinedRecords, Confined}
use Rattle.specification.specs.Create
use Rattle.specification.specs.Ident
use Rattle.specification.specs.Delete
use Rattle.specification.specs.Submit
use Rattle.specification.specs.Broadcast
use Rattle.specification.specs.Receive
use Rattle.specification.specs.GetNumberPending
use Rattle.specification.specs.Flush
use Rattle.specification.specs.Tick

module _ {x : ℕ} {s : State} (p : Confined x s) where
  -- ---- A change of one queue, and of the tasks

  -- the queue is not opened
  closed_at : (slot : ℕ) (f : Queue → Queue) → ((q : Queue) → q.attributes < 2 → (f q).attributes < 2)
      → (i : ℕ) → i < slot_count → share_of_slot i ≡ x → (get_or (map_with_index (at_index slot f) s.queues) i (free_queue 0)).attributes < 2
  closed_at slot f k i h o =
      let c = p.confined.closed i h o in
      rw (at-mapped (at_index slot f) s.queues i (free_queue 0) (free_queue 0) (omega (arith, p.facts.sized.queues)))
      (at_both (λ _ q. q.attributes < 2) slot f i _ (λ _. k _ c) (λ _. c))

  -- a task that was as w and is as w' is in the queue where it was, in a queue of x, or in none
  abbrev Stays : Task → Task → Type 0
  Stays w w' = (slot : ℕ) → w'.position.queue ≡ suc slot → (w.position.queue ≡ suc slot) ⊎ (share_of_slot slot ≡ x)

  home-mapped : (F : ℕ → Task → Task) → ((t : ℕ) (w : Task) → Stays w (F t w))
      → (t : ℕ) → t < task_count → share_of_task t ≡ x → (slot : ℕ) → (get_or (map_with_index F s.tasks) t (fresh_task 1)).position.queue ≡ suc slot → share_of_slot slot ≡ x
  home-mapped F k t h o slot q =
      ⊎_elim (λ a. p.confined.home t h o slot a) (λ a. a)
      (k t _ slot (rw (at-mapped F s.tasks t (fresh_task 1) (fresh_task 1) (omega (arith, p.facts.sized.tasks))) at q))

  gone : (w w' : Task) → w'.position ≡ no_queue → Stays w w'
  gone w w' e slot q = absurd (let n : 0 ≡ suc slot = sym (ap (λ (a : Position). a.queue) e) ∙ q in omega arith)

  -- ---- The effects

  pub leave-confined : (t slot rank : ℕ) (f : Task → Task) → ((w : Task) → (f w).position ≡ no_queue) → ConfinedRecords x (leave s t slot rank f)
  unfolding leave
  leave-confined t slot rank f nw =
      record {
        closed = closed_at slot _ (λ q h. h);
        home = home-mapped _ (λ j w. if-at (Stays w) j t (f w) _ (λ _. gone w (f w) (nw w)) (λ _ k e. inl (out-queue t slot rank j w.position k e)));
      }

  without_waiters-home : (slot : ℕ) (f : Task → Task) → ((w : Task) → (f w).position ≡ no_queue) → (t : ℕ) → t < task_count → share_of_task t ≡ x → (k : ℕ)
      → (get_or (without_waiters slot f s.tasks) t (fresh_task 1)).position.queue ≡ suc k → share_of_slot k ≡ x
  unfolding without_waiters
  without_waiters-home slot f nw = home-mapped _ (λ t w. gone-cases (λ w. w.position) slot f (Stays w) w (λ _. gone w (f w) (nw w)) (λ _ k e. inl e))

  create-confined : (slot name limit max_size attributes : ℕ) → attributes < 2 → ConfinedRecords x (Create.effect s slot name limit max_size attributes).after
  unfolding Create.effect
  create-confined slot name limit max_size attributes h = record { closed = closed_at slot _ (λ q k. h); home = p.confined.home }

  submit-confined : (slot rank : ℕ) (message : List ℕ) → ConfinedRecords x (Submit.effect s slot rank message).after
  unfolding Submit.effect delivered enqueued
  submit-confined slot rank message = go (has_waiter s slot)
    where
      go : (b : Bool)
          → ConfinedRecords x
          (if b then delivered s (first_waiter s slot) slot message else enqueued s (free_buffer_of s (share_of_slot slot)) slot rank message).after
      go true = leave-confined (first_waiter s slot) slot 0 (with_message message) (λ w. refl)
      go false = record { closed = closed_at slot _ (λ q h. h); home = p.confined.home }

  receive-confined : (caller slot ticks : ℕ) → share_of_slot slot ≡ x → ConfinedRecords x (Receive.effect s caller slot ticks).after
  unfolding Receive.effect received waiting
  receive-confined caller slot ticks own = go (has_message s slot)
    where
      go : (b : Bool)
          → ConfinedRecords x
          (if b then received s caller slot (first_message s slot) else waiting s caller slot (wait_rank s caller slot) ticks).after
      go true =
          record {
            closed = closed_at slot _ (λ q h. h);
            home = home-mapped _ (λ t w. if-at (Stays w) t caller _ w (λ _ k e. absurd (omega arith)) (λ _ k e. inl e));
          }
      go false =
          record {
            closed = closed_at slot _ (λ q h. h);
            home =
                home-mapped _
                (λ t w.
                if-at (Stays w) t caller _ _ (λ _ k e. inr (ap share_of_slot (let q : k ≡ slot = omega arith in q) ∙ own))
                (λ ne k e. inl (in-queue caller slot (wait_rank s caller slot) t w.position k ne e)));
          }

  operation-confined : (caller slot : ℕ) → share_of_slot slot ≡ x → (o : Operation) → ConfinedRecords x (operation_effect s caller slot o).after
  unfolding operation_effect Delete.effect Broadcast.effect GetNumberPending.effect Flush.effect
  operation-confined caller slot own delete =
      record { closed = closed_at slot _ (λ q h. omega arith); home = without_waiters-home slot (ready_with OBJECT-WAS-DELETED) (λ w. refl) }
  operation-confined caller slot own (send message) = submit-confined slot _ message
  operation-confined caller slot own (urgent message) = submit-confined slot _ message
  operation-confined caller slot own (broadcast message) =
      record { closed = closed_at slot _ (λ q h. h); home = without_waiters-home slot (with_message message) (λ w. refl) }
  operation-confined caller slot own (receive option ticks) = receive-confined caller slot ticks own
  operation-confined caller slot own get_number_pending = p.confined
  operation-confined caller slot own flush = record { closed = closed_at slot _ (λ q h. h); home = p.confined.home }

-- ---- A tick

-- task `t`, whose record is `w`, leaves its queue, or has a tick less
abbrev pub expired : (t : ℕ) (w : Task) → State → State
expired t w s = leave s t (slot_in w.position) w.position.rank (ready_with TIMEOUT)

abbrev pub ticked : (t : ℕ) (w : Task) → State → State
ticked t w s = record { queues = s.queues; pool = s.pool; tasks = map_with_index (at_index t (with_ticks (w.ticks_left - 1))) s.tasks }

-- what its tick does to the tables is one of these, or nothing
pub tick-cases : (t : ℕ) (w : Task) (P : (State → State) → Type 0) → (expires w ≡ true → P (expired t w)) → P (ticked t w) → P (λ s. s)
    → P (λ s. if expires w then expired t w s else if is_timed w then ticked t w s else s)
tick-cases t w P leaves ticks stays = go (expires w) (is_timed w) refl
  where
    go : (b c : Bool) → expires w ≡ b → P (λ s. if b then expired t w s else if c then ticked t w s else s)
    go true c e = leaves e
    go false true e = ticks
    go false false e = stays

pub tick_task-confined : {x : ℕ} {s : State} → Confined x s → (t : ℕ) → t < task_count → Confined x (tick_task s t)
unfolding tick_task
tick_task-confined {x} {s} p t h =
    record {
      facts = tick_task-sound s p.facts t h;
      confined =
          tick-cases t (task_at s t) (λ f. ConfinedRecords x (f s)) (λ _. leave-confined p t _ _ (ready_with TIMEOUT) (λ w. refl))
          (record {
            closed = p.confined.closed;
            home = home-mapped p _ (λ j w. if-at (Stays p w) j t _ w (λ _ k e. inl e) (λ _ k e. inl e));
          })
          p.confined;
    }

tick_tasks-confined : {x : ℕ} {s : State} (ts : List ℕ) → Below task_count ts → Confined x s → Confined x (tick_tasks s ts)
unfolding tick_tasks
tick_tasks-confined [] b p = p
tick_tasks-confined {s = s} (t ∷ ts) b p = tick_tasks-confined {s = tick_task s t} ts b.1 (tick_task-confined p t b.0)

-- ---- A call that x may make, and a tick

closed-attributes : (n : ℕ) → within 2 3 n ≡ false → n ≤ 3 → n < 2
unfolding within
closed-attributes n e h = go (leb 2 n) refl e
  where
    go : (b : Bool) → leb 2 n ≡ b → b && leb n 3 ≡ false → n < 2
    go true k f = absurd (let lt : 3 < n = leb-false _ _ f in omega arith)
    go false k f = leb-false _ _ k

module _ {x : ℕ} {s : State} (p : Confined x s) where
  effect-confined : (c : Call) → is_confined x c ≡ true → Accepted s c → ConfinedRecords x (effect s c).after
  unfolding effect is_confined confined_directive Accepted directive_refusals Ident.effect Tick.effect
  effect-confined (call caller (create name limit max_size attributes)) k a =
      create-confined p _ name limit max_size attributes
      (closed-attributes attributes (not-true _ k) (creatable s (share_of_task caller) name limit max_size attributes a.directive).attributes_high)
  effect-confined (call caller (ident name share)) k n = p.confined
  effect-confined (call caller (on_queue id operation)) k n = operation-confined p caller (slot_of id) (eqb-true _ _ k) operation
  effect-confined tick k n = (tick_tasks-confined (numbers_from 0 task_count) (below-range task_count 0 task_count (omega arith)) p).confined

  pub call-confined : (c : Call) → is_confined x c ≡ true → Confined x (call_on_records s c).after
  unfolding call_on_records
  call-confined c k =
      record {
        facts = call-sound s p.facts c;
        confined = refused-or (λ o. ConfinedRecords x o.after) s _ _ (λ n. p.confined) (λ n. effect-confined c k (accepted-facts s c n));
      }
