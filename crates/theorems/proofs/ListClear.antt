-- Broadcast, delete, flush and pending on a queue as a list. Assumes nothing.
use Prim.Native.Nat.{ℕ, suc, ◌<◌}
use native.Mathlib.Omega.{arith}
use mathlib.Core.Path.{◌≡◌, refl, ap, ◌∙◌}
use mathlib.Core.Bool.{false}
use mathlib.Core.List.{List, []}
use lib.Dec.{eqb}
use lib.ListN.{length, get_or}
use borrow.Author.Tests.{ne_eqb}
use Rattle.std.specs.Prelude.{if◌then◌else◌}
use Rattle.ranks.specs.Position.{no_queue}
use Rattle.records.specs.Layout.{slot_count, buffer_count, task_count}
use Rattle.records.specs.Records.{Queue, Buffer, Task, State, queue_at, buffer_at, task_at, free_buffer, fresh_task, message_in}
use Rattle.records.specs.Changes.{freed, with_pending, with_waiters, with_message, ready_with}
use Rattle.records.specs.Status.{OBJECT-WAS-DELETED}
use Rattle.specification.specs.Lookup.{waiters_of, without_waiters, without_messages}
use Rattle.theorems.specs.QueueLists.{contents, leaves, member, SameButPosition, OperationOnLists}
use Rattle.ranks.proofs.ByRank.{counted}
use Rattle.specification.proofs.SoundFacts.{Sized, SoundFacts, buffers-ranked, tasks-ranked}
use Rattle.theorems.proofs.ListSteps.{cleared_at, cleared-other, cleared-agree}
use Rattle.theorems.proofs.ListContents.{same-messages, same-waiters, kept-messages, kept-waiters, both-lists, no-messages, no-waiters, mask-none, same-task, own-kept, changed-queues, waiters-mask, count-waiters, count-messages, waits_in}
use Rattle.specification.specs.Broadcast
use Rattle.specification.specs.Delete
use Rattle.specification.specs.Flush
use Rattle.specification.specs.GetNumberPending
use Rattle.theorems.proofs.CountChange
use Rattle.theorems.proofs.CountChange.{QueueChanged}

-- The queue in the slot is changed by h, and all its waiters leave, or all its messages are removed.
module _ {s s' : State} {slot : ℕ} {h : Queue → Queue} (change : QueueChanged s s' slot h) where
  g : SoundFacts s
  g = change.facts

  other : (i : ℕ) → i < slot_count → (i ≡ slot → ⊥) → queue_at s' i ≡ queue_at s i
  other = CountChange.other change

  module _ (f : Task → Task) (gone : (w : Task) → (f w).position ≡ no_queue) (tasks : s'.tasks ≡ without_waiters slot f s.tasks) where
    all_left : (h (queue_at s slot)).waiters ≡ 0 → (contents s' slot).waiters ≡ []
    all_left none = no-waiters s' slot (ap (λ (q : Queue). q.waiters) (CountChange.here change) ∙ none)

    other-waiters : (i : ℕ) → i < slot_count → (i ≡ slot → ⊥) → (contents s' i).waiters ≡ (contents s i).waiters
    unfolding without_waiters
    other-waiters i i< ne =
        same-waiters g i i< s' change.sized (ap (λ (q : Queue). q.waiters) (other i i< ne)) (λ j lt. rw tasks (cleared-agree (tasks-ranked s g i i<) slot f gone ne j lt))

    cleared-tasks : (k : ℕ) → k < task_count → SameButPosition (if member k (contents s slot).waiters then f (task_at s k) else task_at s k) (task_at s' k)
    unfolding without_waiters
    cleared-tasks k lt = same-task _ _ (ap (λ (ws : List Task). get_or ws k (fresh_task 1)) tasks ∙ cleared_at (tasks-ranked s g slot change.inside) slot f k lt _ (waits_in g slot change.inside k lt))

  module _ (pool : s'.pool ≡ without_messages slot s.pool) where
    all-removed : (h (queue_at s slot)).pending ≡ 0 → (contents s' slot).messages ≡ []
    all-removed none = no-messages s' slot (ap (λ (q : Queue). q.pending) (CountChange.here change) ∙ none)

    other-messages : (i : ℕ) → i < slot_count → (i ≡ slot → ⊥) → (contents s' i).messages ≡ (contents s i).messages
    unfolding without_messages
    other-messages i i< ne =
        same-messages g i i< s' change.sized (ap (λ (q : Queue). q.pending) (other i i< ne))
        (λ j lt. rw pool (cleared-agree (buffers-ranked s g i i<) slot (λ _. free_buffer) (λ _. refl) ne j lt))
        (λ j lt q. rw pool (ap message_in (cleared-other (buffers-ranked s g i i<) slot (λ _. free_buffer) ne j lt q)))

    still-free : (b : ℕ) → b < buffer_count → (buffer_at s b).position.queue ≡ 0 → (buffer_at s' b).position.queue ≡ 0
    unfolding without_messages
    still-free b lt free =
        ap (λ (ms : List Buffer). (get_or ms b free_buffer).position.queue) pool
        ∙ ap (λ (m : Buffer). m.position.queue)
        (cleared_at (buffers-ranked s g slot change.inside) slot (λ _. free_buffer) b lt false (ne_eqb (buffer_at s b).position.queue (suc slot) (λ z. omega arith)))
        ∙ free

module _ {s : State} (g : SoundFacts s) (slot : ℕ) (slot< : slot < slot_count) where
  abbrev ms : List (List ℕ)
  ms = (contents s slot).messages

  abbrev ws : List ℕ
  ws = (contents s slot).waiters

  pub broadcast-lists : (message : List ℕ) → Sized (Broadcast.effect s slot message).after
      → OperationOnLists s slot (Broadcast.effect s slot message) (leaves ms [] ws (length ws)) (λ k w. if member k ws then with_message message w else w) (λ q. q)
  unfolding Broadcast.effect waiters_of
  broadcast-lists message z' =
      record {
        queue = both-lists (messages slot slot<) (all_left change (with_message message) (λ w. refl) refl refl);
        others = λ i i< ne. both-lists (messages i i<) (other-waiters change (with_message message) (λ w. refl) refl i i< ne);
        status = refl;
        value = counted (tasks-ranked s g slot slot<) ∙ count-waiters g slot slot<;
        woken = waiters-mask g slot slot<;
        tasks = cleared-tasks change (with_message message) (λ w. refl) refl;
        queues = changed-queues change (λ q. q) (λ q. refl);
        queued = λ b h free used. absurd (used free);
      }
    where
      s' : State
      s' = (Broadcast.effect s slot message).after

      change : QueueChanged s s' slot (with_waiters 0)
      change = record { facts = g; sized = z'; inside = slot<; queues = refl }

      messages : (i : ℕ) → i < slot_count → (contents s' i).messages ≡ (contents s i).messages
      messages = kept-messages change refl refl

  pub delete-lists : Sized (Delete.effect s slot).after
      → OperationOnLists s slot (Delete.effect s slot) (leaves [] [] ws 0) (λ k w. if member k ws then ready_with OBJECT-WAS-DELETED w else w)
      freed
  unfolding Delete.effect
  delete-lists z' =
      record {
        queue =
            both-lists (all-removed change refl refl) (all_left change (ready_with OBJECT-WAS-DELETED) (λ w. refl) refl refl);
        others =
            λ i i< ne.
            both-lists (other-messages change refl i i< ne)
            (other-waiters change (ready_with OBJECT-WAS-DELETED) (λ w. refl) refl i i< ne);
        status = refl;
        value = refl;
        woken = waiters-mask g slot slot<;
        tasks = cleared-tasks change (ready_with OBJECT-WAS-DELETED) (λ w. refl) refl;
        queues = changed-queues change freed (λ q. refl);
        queued = λ b h free used. absurd (used (still-free change refl b h free));
      }
    where
      s' : State
      s' = (Delete.effect s slot).after

      change : QueueChanged s s' slot freed
      change = record { facts = g; sized = z'; inside = slot<; queues = refl }

  pub flush-lists : Sized (Flush.effect s slot).after
      → OperationOnLists s slot (Flush.effect s slot) (leaves [] ws [] (length ms)) (λ k w. w) (λ q. q)
  unfolding Flush.effect
  flush-lists z' =
      record {
        queue = both-lists (all-removed change refl refl) (waiters slot slot<);
        others = λ i i< ne. both-lists (other-messages change refl i i< ne) (waiters i i<);
        status = refl;
        value = count-messages g slot slot<;
        woken = mask-none;
        tasks = λ k h. refl;
        queues = changed-queues change (λ q. q) (λ q. refl);
        queued = λ b h free used. absurd (used (still-free change refl b h free));
      }
    where
      s' : State
      s' = (Flush.effect s slot).after

      change : QueueChanged s s' slot (with_pending 0)
      change = record { facts = g; sized = z'; inside = slot<; queues = refl }

      waiters : (i : ℕ) → i < slot_count → (contents s' i).waiters ≡ (contents s i).waiters
      waiters = kept-waiters change refl refl

  pub pending-lists : OperationOnLists s slot (GetNumberPending.effect s slot) (leaves ms ws [] (length ms)) (λ k w. w) (λ q. q)
  unfolding GetNumberPending.effect
  pending-lists =
      record {
        queue = refl;
        others = λ i h ne. refl;
        status = refl;
        value = count-messages g slot slot<;
        woken = mask-none;
        tasks = λ k h. refl;
        queues = λ i h. own-kept (eqb i slot) _ _ _ refl;
        queued = λ b h free used. absurd (used free);
      }
