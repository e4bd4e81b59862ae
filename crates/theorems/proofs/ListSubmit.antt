-- Send and urgent on a queue as a list. Assumes nothing.
use Prim.Native.Nat.{ℕ, suc, ◌≤◌, ◌<◌}
use native.Mathlib.Omega.{arith}
use mathlib.Core.Path.{◌≡◌, refl, sym, ap, ap₂, ◌∙◌, subst}
use mathlib.Core.Bool.{Bool, true, false, or-false}
use mathlib.Core.Logic.{⊎_elim}
use mathlib.Core.List.{List, [], ◌∷◌, ◌++◌, map}
use lib.Dec.{eqb}
use lib.ListN.{get_or, take, drop}
use lib.Seq.{take-append_seam}
use borrow.Author.Tests.{ltb-true, ltb-false}
use Rattle.std.specs.Prelude.{if◌then◌else◌}
use Rattle.ranks.specs.Position.{Position, position_at}
use Rattle.ranks.specs.Steps.{inserted, by_rank}
use Rattle.records.specs.Layout.{slot_count, buffer_count, task_count}
use Rattle.records.specs.Split.{share_of_slot}
use Rattle.records.specs.Records.{Queue, Buffer, State, queue_at, buffer_at, task_at, free_buffer, fresh_task, message_in}
use Rattle.records.specs.Changes.{with_pending, move_buffer, message_buffer, with_message}
use Rattle.specification.specs.Answer.{Outcome}
use Rattle.specification.specs.Lookup.{first_waiter, has_waiter, leave}
use Rattle.specification.specs.Submit.{is_free_of, free_buffer_of, delivered, enqueued, effect}
use Rattle.theorems.specs.QueueLists.{contents, leaves, submit, member, SameButPosition, Lowest, OperationOnLists}
use Rattle.ranks.proofs.Tests.{same?}
use Rattle.ranks.proofs.Ranks.{in_itself, in-stays}
use Rattle.ranks.proofs.ByRank.{Changed, inserted-list}
use Rattle.specification.proofs.SoundFacts.{Sized, SoundFacts, buffers-ranked}
use Rattle.theorems.proofs.SoundSubmit.{first-waits, none-waits, free-found, Submitted}
use Rattle.theorems.proofs.ListSteps.{map-put, map-by-rank, stepped-here, stepped-other, stepped-changed, inserted-agree}
use Rattle.theorems.proofs.ListContents.{same-messages, kept-waiters, both-lists, first-lowest, no-waiters, mask-of, mask-none, own-kept, changed-queues}
use Rattle.theorems.proofs.ListLeave.{Leaves, leave-lists}
use Rattle.theorems.proofs.CountChange
use Rattle.theorems.proofs.CountChange.{QueueChanged}

-- ---- A message that is queued

module _ {s : State} (g : SoundFacts s) (b slot rank : ℕ) (message : List ℕ) (b< : b < buffer_count) (slot< : slot < slot_count) (free : (buffer_at s b).position.queue ≡ 0)
    (le : rank ≤ (queue_at s slot).pending) (z' : Sized (enqueued s b slot rank message).after) where
  abbrev s' : State
  s' = (enqueued s b slot rank message).after

  abbrev more : Queue → Queue
  more q = with_pending (suc q.pending) q

  abbrev new : Buffer → Buffer
  new m = message_buffer (position_at slot rank) message

  change : QueueChanged s s' slot more
  unfolding enqueued
  change = record { facts = g; sized = z'; inside = slot<; queues = refl }

  changed : Changed (λ (m : Buffer). m.position) free_buffer buffer_count s.pool s'.pool (inserted b slot rank)
  unfolding enqueued
  changed =
      stepped-changed (buffers-ranked s g slot slot<) move_buffer b new (inserted b slot rank) (λ p m. refl) (λ m. sym (in_itself b slot rank m.position))

  -- a buffer in use holds what it held
  held : (i j : ℕ) → j < buffer_count → (buffer_at s j).position.queue ≡ suc i → message_in (buffer_at s' j) ≡ message_in (buffer_at s j)
  unfolding enqueued
  held i j h q =
      ap message_in
      (stepped-other (buffers-ranked s g slot slot<) move_buffer b new (inserted b slot rank) j h
      (λ e. let z : suc i ≡ 0 = sym q ∙ ap (λ (k : ℕ). (buffer_at s k).position.queue) e ∙ free in omega arith))

  new-message : message_in (buffer_at s' b) ≡ message
  unfolding enqueued
  new-message =
      ap message_in (stepped-here (buffers-ranked s g slot slot<) move_buffer b new (inserted b slot rank) b<) ∙ take-append_seam message _

  messages : (contents s' slot).messages ≡ take rank (contents s slot).messages ++ message ∷ drop rank (contents s slot).messages
  unfolding contents enqueued
  messages =
      let f : ℕ → List ℕ = λ j. message_in (buffer_at s' j) in
      ap (λ (n : ℕ). map f (by_rank (λ (m : Buffer). m.position) slot n s'.pool))
      (ap (λ (q : Queue). q.pending) (CountChange.here change))
      ∙ ap (map f) (inserted-list (buffers-ranked s g slot slot<) s'.pool z'.pool b rank b< free le changed)
      ∙ map-put f _ rank b
      ∙ ap₂ (λ (m : List ℕ) (ms : List (List ℕ)). take rank ms ++ m ∷ drop rank ms) new-message (map-by-rank (buffers-ranked s g slot slot<) _ _ (held slot))

  other : (i : ℕ) → i < slot_count → (i ≡ slot → ⊥) → (contents s' i).messages ≡ (contents s i).messages
  unfolding enqueued
  other i i< ne =
      same-messages g i i< s' z' (ap (λ (q : Queue). q.pending) (CountChange.other change i i< ne))
      (inserted-agree (buffers-ranked s g i i<) s'.pool b slot rank ne free changed) (held i)

  -- a free buffer that is not free any more is the one that the message is put into
  is-used : (j : ℕ) → j < buffer_count → (buffer_at s j).position.queue ≡ 0 → ((buffer_at s' j).position.queue ≡ 0 → ⊥) → b ≡ j
  is-used j h free used =
      ⊎_elim sym (λ ne. absurd (used (ap (λ (p : Position). p.queue) (changed j h ∙ in-stays b slot rank j _ ne (λ z. omega arith)) ∙ free))) (same? j b)

  pub enqueued-lists : (ms : List (List ℕ)) → ms ≡ take rank (contents s slot).messages ++ message ∷ drop rank (contents s slot).messages
      → (contents s slot).waiters ≡ [] → Lowest (λ j. is_free_of (share_of_slot slot) j (buffer_at s j)) b
      → OperationOnLists s slot (enqueued s b slot rank message) (leaves ms [] [] 0) (λ k w. w) (λ q. q)
  unfolding enqueued
  enqueued-lists ms at-rank none lowest =
      record {
        queue = both-lists (messages ∙ sym at-rank) (waiters slot slot< ∙ none);
        others = λ i i< ne. both-lists (other i i< ne) (waiters i i<);
        status = refl;
        value = refl;
        woken = mask-none;
        tasks = λ k h. refl;
        queues = changed-queues change (λ q. q) (λ q. refl);
        queued = λ j h free used. subst (Lowest (λ j. is_free_of (share_of_slot slot) j (buffer_at s j))) (is-used j h free used) lowest;
      }
    where
      waiters : (i : ℕ) → i < slot_count → (contents s' i).waiters ≡ (contents s i).waiters
      waiters = kept-waiters change refl refl

-- ---- A message that a waiter gets

alone : (k t : ℕ) → eqb k t ≡ member k (t ∷ [])
unfolding member
alone k t = sym (or-false (eqb k t))

delivered-lists : {s : State} (g : SoundFacts s) (t slot : ℕ) (message : List ℕ) (slot< : slot < slot_count) → Leaves s t slot 0 (with_message message) (delivered s t slot message).after
    → OperationOnLists s slot (delivered s t slot message)
    (leaves (contents s slot).messages (contents (delivered s t slot message).after slot).waiters (t ∷ []) 0)
    (λ k w. if member k (t ∷ []) then with_message message w else w) (λ q. q)
unfolding delivered
delivered-lists {s} g t slot message slot< l =
    record {
      queue = both-lists (l.messages slot slot<) refl;
      others = λ i i< ne. both-lists (l.messages i i<) (l.others i i< ne);
      status = refl;
      value = refl;
      woken = mask-of _ s.tasks (fresh_task 1) (t ∷ []) g.sized.tasks (λ k h. alone k t);
      tasks =
          λ k h.
          subst (λ (b : Bool). SameButPosition (if b then with_message message (task_at s k) else task_at s k) (task_at (leave s t slot 0 (with_message message)) k))
          (alone k t) (l.tasks k h);
      queues = λ i i<. own-kept (eqb i slot) _ _ _ (l.queues i i<);
      queued = λ b h free used. absurd (used (ap (λ (ms : List Buffer). (get_or ms b free_buffer).position.queue) l.pool ∙ free));
    }

-- ---- Send and urgent

module _ {s : State} (g : SoundFacts s) (slot rank : ℕ) (message : List ℕ) (slot< : slot < slot_count) (ok : Submitted s slot message)
    (le : rank ≤ (queue_at s slot).pending) (enqueue : List (List ℕ) → List (List ℕ))
    (at-rank : enqueue (contents s slot).messages ≡ take rank (contents s slot).messages ++ message ∷ drop rank (contents s slot).messages) where
  -- where ws are the waiters
  abbrev Submits : (ws : List ℕ) → Outcome State → Type 0
  Submits ws r =
      OperationOnLists s slot r (submit enqueue (record { messages = (contents s slot).messages; waiters = ws }))
      (λ k w. if member k (take 1 ws) then with_message message w else w) (λ q. q)

  pub submit-lists : Sized (effect s slot rank message).after → Submits (contents s slot).waiters (effect s slot rank message)
  unfolding effect delivered submit member free_buffer_of
  submit-lists = go (has_waiter s slot) refl
    where
      go : (b : Bool) → has_waiter s slot ≡ b
          → Sized (if b then delivered s (first_waiter s slot) slot message else enqueued s (free_buffer_of s (share_of_slot slot)) slot rank message).after
          → Submits (contents s slot).waiters
          (if b then delivered s (first_waiter s slot) slot message else enqueued s (free_buffer_of s (share_of_slot slot)) slot rank message)
      go true e z' =
          let h : first_waiter s slot < task_count = ltb-true _ _ e in
          let (q, r) = first-waits s g.sized slot h in
          let l = leave-lists g (first_waiter s slot) slot 0 (with_message message) slot< (h, q, r) (λ w. refl) z' in
          subst (λ (ws : List ℕ). Submits ws (delivered s (first_waiter s slot) slot message)) (sym (l.first refl)) (delivered-lists g _ slot message slot< l)
      go false e z' =
          let (free, own) = free-found s g.sized (share_of_slot slot) (ok.free e) in
          let lowest = first-lowest (is_free_of (share_of_slot slot)) s.pool free_buffer (omega (arith, ok.free e, g.sized.pool)) in
          let none = no-waiters s slot (none-waits s g slot slot< (ltb-false _ _ e)) in
          subst (λ (ws : List ℕ). Submits ws (enqueued s (free_buffer_of s (share_of_slot slot)) slot rank message)) (sym none)
          (enqueued-lists g _ slot rank message (ok.free e) slot< free le z' _ at-rank none lowest)
