-- Send and urgent leave sound tables. Assumes nothing.
use Prim.Native.Nat.{ℕ, suc, ◌≤◌, ◌<◌}
use native.Mathlib.Omega.{arith}
use mathlib.Core.Path.{◌≡◌, refl, sym, ap, ◌∙◌, subst}
use mathlib.Core.Bool.{Bool, true, false, not, ◌&&◌, ◌||◌}
use mathlib.Core.Logic.{inr, ⊎_elim}
use mathlib.Core.List.{List}
use lib.Dec.{eqb, leb}
use lib.ListN.{length}
use borrow.Author.Tests.{eqb-true, ltb-true, ltb-false, leb-false, not-false}
use Rattle.std.specs.Prelude.{if◌then◌else◌}
use Rattle.ranks.specs.Lists.{map_with_index, all_true}
use Rattle.records.specs.Split.{share_of_slot, share_of_buffer}
use Rattle.records.specs.Layout.{slot_of, capacity, slot_count, task_count, buffer_count}
use Rattle.records.specs.Records.{State, size_allowed, is_full, queue_at, buffer_at, task_at, free_buffer, fresh_task}
use Rattle.records.specs.Changes.{overwrite_front, with_wait, with_result, ready_with, with_message}
use Rattle.records.specs.Status.{SUCCESSFUL, TIMEOUT, OBJECT-WAS-DELETED}
use Rattle.ranks.specs.Position.{no_queue}
use Rattle.specification.specs.Sound.{task_rules}
use Rattle.specification.specs.Lookup.{usable, first_waiter, has_waiter, leave}
use Rattle.specification.specs.Submit.{is_free_of, free_buffer_of, refusals, delivered, enqueued, effect}
use Rattle.ranks.proofs.Lists.{at-mapped, length-mapped, first-true, holds}
use Rattle.ranks.proofs.Tests.{both}
use Rattle.ranks.proofs.Found.{found-stands, none_first}
use Rattle.specification.proofs.Rules.{size-at-most, Live, Ready, task-rules}
use Rattle.specification.proofs.SoundFacts.{Sized, SoundFacts}
use Rattle.specification.proofs.Refused.{None}
use Rattle.theorems.proofs.KeptQueues.{live_of}
use Rattle.theorems.proofs.SoundLeave.{leave-sound}
use Rattle.theorems.proofs.SoundEnqueue.{enqueued-sound}

-- a usable id names a live queue
pub usable-live : (s : State) (caller id : ℕ) → usable s caller id ≡ true → (queue_at s (slot_of id)).live ≡ 1
unfolding usable
usable-live s caller id e = eqb-true _ _ (holds _ e).0

pub slot-below : (id : ℕ) → slot_of id < slot_count
slot-below id = omega arith

-- every task's rules on its own bytes
pub own-rules : (s : State) → SoundFacts s → (t : ℕ) → t < task_count → all_true (task_rules (task_at s t)) ≡ true
own-rules s g t h = ⊎_elim (λ r. r.rules) (λ w. w.rules) (task-rules s t _ (g.task t h))

-- the first waiter stands at rank 0
pub first-waits : (s : State) → Sized s → (slot : ℕ) → first_waiter s slot < task_count
    → ((task_at s (first_waiter s slot)).position.queue ≡ suc slot) × ((task_at s (first_waiter s slot)).position.rank ≡ 0)
unfolding first_waiter
first-waits s z slot h = found-stands (λ w. w.position) slot 0 s.tasks (fresh_task 1) (omega (arith, z.tasks))

-- with no first waiter there is no waiter
pub none-waits : (s : State) → SoundFacts s → (slot : ℕ) → slot < slot_count → task_count ≤ first_waiter s slot → (queue_at s slot).waiters ≡ 0
unfolding first_waiter
none-waits s g slot slot< h = none_first (λ w. w.position) slot _ s.tasks (fresh_task 1) task_count g.sized.tasks (g.waiters slot slot<) h

-- the buffer found is free and of the share
pub free-found : (s : State) → Sized s → (p : ℕ) → free_buffer_of s p < buffer_count
    → ((buffer_at s (free_buffer_of s p)).position.queue ≡ 0) × (share_of_buffer (free_buffer_of s p) ≡ p)
unfolding free_buffer_of
free-found s z p h =
    let lt : free_buffer_of s p < length s.pool = omega (arith, z.pool) in
    let e = first-true (map_with_index (is_free_of p) s.pool) (subst (λ (n : ℕ). free_buffer_of s p < n) (sym (length-mapped _ s.pool)) lt) in
    let (a, b) = both _ _ (sym (at-mapped (is_free_of p) s.pool _ free_buffer false lt) ∙ e) in
    (eqb-true _ _ a, eqb-true _ _ b)

-- a ready task's length
pub length-bound : (s : State) → SoundFacts s → (t : ℕ) → t < task_count → (task_at s t).message_length ≤ capacity
length-bound s g t h = ⊎_elim (λ r. r.message_length) (λ w. let e = w.message_length in omega arith) (task-rules s t _ (g.task t h))

-- a task that has left its queue, with what it received, is a ready task
left-ready : (s : State) → SoundFacts s → (t : ℕ) → t < task_count → (status size : ℕ) (bytes : List ℕ)
    → (eqb status SUCCESSFUL || eqb status TIMEOUT || eqb status OBJECT-WAS-DELETED) ≡ true → size ≤ capacity
    → Ready (with_wait 0 no_queue 0 (with_result status size bytes (task_at s t)))
unfolding task_rules
left-ready s g t h status size bytes ok le =
    record { rules = own-rules s g t h; state = refl; queue = refl; rank = refl; ticks_left = refl; status = ok; message_length = le }

pub with_message-ready : (s : State) → SoundFacts s → (t : ℕ) → t < task_count → (message : List ℕ) → length message ≤ capacity → Ready (with_message message (task_at s t))
with_message-ready s g t h message le = left-ready s g t h SUCCESSFUL (length message) (overwrite_front message (task_at s t).receive_buffer) refl le

pub ready_with-ready : (s : State) → SoundFacts s → (t : ℕ) → t < task_count → (status : ℕ)
    → (eqb status SUCCESSFUL || eqb status TIMEOUT || eqb status OBJECT-WAS-DELETED) ≡ true → Ready (ready_with status (task_at s t))
ready_with-ready s g t h status ok = left-ready s g t h status (task_at s t).message_length (task_at s t).receive_buffer ok (length-bound s g t h)

-- what a queue's refusals leave: the message's size is allowed, and where none waits there is room and a free buffer
pub record Submitted (s : State) (slot : ℕ) (message : List ℕ) : Type 0 where
  pub allowed : size_allowed (queue_at s slot) (length message) ≡ true
  pub room : has_waiter s slot ≡ false → (queue_at s slot).pending < (queue_at s slot).limit
  pub free : has_waiter s slot ≡ false → free_buffer_of s (share_of_slot slot) < buffer_count

pub submitted : (s : State) (slot : ℕ) (message : List ℕ) → None (refusals s slot message) → Submitted s slot message
unfolding refusals
submitted s slot message (size, (full, (none, _))) =
    record {
      allowed = not-false _ size;
      room = λ e. leb-false _ _ (sym (ap (λ (b : Bool). not b && is_full (queue_at s slot)) e) ∙ full);
      free = λ e. leb-false _ _ (sym (ap (λ (b : Bool). not b && leb buffer_count (free_buffer_of s (share_of_slot slot))) e) ∙ none);
    }

module _ (s : State) (g : SoundFacts s) (slot rank : ℕ) (message : List ℕ) (slot< : slot < slot_count) (live : (queue_at s slot).live ≡ 1)
    (ok : Submitted s slot message) (le : rank ≤ (queue_at s slot).pending) where
  is_live : Live (queue_at s slot)
  is_live = live_of _ (g.queue slot slot<) (inr (inr live))

  pub short : length message ≤ capacity
  short = let h = size-at-most _ _ ok.allowed in let k = is_live.size-high in omega arith

  delivered-sound : first_waiter s slot < task_count → SoundFacts (delivered s (first_waiter s slot) slot message).after
  unfolding delivered
  delivered-sound h =
      let (q, r) = first-waits s g.sized slot h in
      subst (λ (k : ℕ). SoundFacts (leave s (first_waiter s slot) slot k (with_message message))) r
      (leave-sound s g (first_waiter s slot) slot (with_message message) h slot< q
      (with_message-ready s g (first_waiter s slot) h message short) (λ w. refl))

  pub submit-sound : SoundFacts (effect s slot rank message).after
  unfolding effect
  submit-sound = go (has_waiter s slot) refl
    where
      go : (b : Bool) → has_waiter s slot ≡ b
          → SoundFacts (if b then delivered s (first_waiter s slot) slot message else enqueued s (free_buffer_of s (share_of_slot slot)) slot rank message).after
      go true e = delivered-sound (ltb-true _ _ e)
      go false e =
          let (fr, sh) = free-found s g.sized (share_of_slot slot) (ok.free e) in
          enqueued-sound s g _ slot rank message (ok.free e) slot< fr live (none-waits s g slot slot< (ltb-false _ _ e)) (ok.room e) (sym sh) ok.allowed le
