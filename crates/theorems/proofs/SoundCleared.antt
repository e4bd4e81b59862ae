-- A queue whose waiters all leave, or whose messages are all removed: broadcast, flush, delete. Assumes nothing.
use Prim.Native.Nat.{ℕ, suc, ◌≤◌, ◌<◌}
use native.Mathlib.Omega.{arith}
use mathlib.Core.Path.{◌≡◌, refl, sym, ap, ◌∙◌, subst}
use mathlib.Core.Bool.{Bool, true, false}
use mathlib.Core.Logic.{inl, inr, ⊎_elim}
use mathlib.Core.List.{List}
use lib.ListN.{length, get_or}
use borrow.Author.Tests.{eqb-true, eqb-false}
use Rattle.std.specs.Prelude.{if◌then◌else◌}
use Rattle.ranks.specs.Lists.{map_with_index, all_zero}
use Rattle.records.specs.Layout.{capacity, slot_count, buffer_count, task_count}
use Rattle.ranks.specs.Position.{Position, no_queue, in_queue}
use Rattle.records.specs.Records.{size_allowed, Queue, Buffer, Task, State, queue_at, buffer_at, task_at, free_buffer, fresh_task}
use Rattle.specification.specs.Sound.{sound_buffer, sound_task}
use Rattle.records.specs.Changes.{at_index, with_message, with_waiters, with_pending}
use Rattle.specification.specs.Lookup.{without_waiters, without_messages}
use Rattle.ranks.proofs.Lists.{at-mapped, length-mapped}
use Rattle.specification.proofs.Rules.{size-at-most, Live, Ready, live-sound, buffer-rules, unused-sound, used_sound, task-rules, ready-sound, waiting-sound}
use Rattle.ranks.proofs.Ranks.{Ranked, clear-all}
use Rattle.specification.proofs.SoundFacts.{Sized, SoundFacts, Ordered}
use Rattle.theorems.proofs.KeptQueues.{ordered-kept, live-waiters, live-pending, live_of, same, Kept, used-same, waiting-same, buffer-kept, task-kept, same-but-counts}
use Rattle.theorems.proofs.SoundSubmit.{with_message-ready}
use Rattle.specification.specs.Broadcast
use Rattle.specification.specs.Flush
use Rattle.theorems.proofs.CountChange
use Rattle.theorems.proofs.CountChange.{QueueChanged, still}

-- ---- What becomes of a table whose records of one queue all leave it

module _ {A : Type 0} (position : A → Position) (slot : ℕ) (f : A → A) where
  abbrev pub gone : A → A
  gone x = if in_queue slot (position x) then f x else x

  -- it was in the queue, or it is as it was
  pub gone-cases : (P : A → Type 0) (x : A) → ((position x).queue ≡ suc slot → P (f x)) → (((position x).queue ≡ suc slot → ⊥) → P x) → P (gone x)
  gone-cases P x h k = go (in_queue slot (position x)) refl
    where
      go : (b : Bool) → in_queue slot (position x) ≡ b → P (if b then f x else x)
      go true e = h (eqb-true _ _ e)
      go false e = k (eqb-false _ _ e)

  module _ (nw : (x : A) → position (f x) ≡ no_queue) (d : A) {N : ℕ} (xs : List A) {xs' : List A} (long : length xs ≡ N) (e : xs' ≡ map_with_index (λ j x. gone x) xs) where
    after : (j : ℕ) → j < N → get_or xs' j d ≡ gone (get_or xs j d)
    after j h = rw e (at-mapped (λ j x. gone x) xs j d d (omega (arith, long)))

    -- one that is in a queue afterwards is as it was, and was not in this one
    stayed : (j i : ℕ) → j < N → (position (get_or xs' j d)).queue ≡ suc i → (get_or xs' j d ≡ get_or xs j d) × ((position (get_or xs j d)).queue ≡ suc slot → ⊥)
    stayed j i h q =
        let (a, b) =
        gone-cases (λ y. (position y).queue ≡ suc i → (y ≡ get_or xs j d) × ((position (get_or xs j d)).queue ≡ suc slot → ⊥)) (get_or xs j d)
        (λ _ z. absurd (let y : 0 ≡ suc i = sym (ap (λ (p : Position). p.queue) (nw (get_or xs j d))) ∙ z in omega arith)) (λ n _. (refl, n))
        (sym (ap (λ (x : A). (position x).queue) (after j h)) ∙ q) in
        (after j h ∙ a, b)

    left-ranks : (n n' : ℕ → ℕ) → ((i : ℕ) → i < slot_count → Ranked N (λ j. position (get_or xs j d)) i (n i)) → ((i : ℕ) → i < slot_count → (i ≡ slot → ⊥) → n' i ≡ n i)
        → n' slot ≡ 0 → (i : ℕ) → i < slot_count → Ranked N (λ j. position (get_or xs' j d)) i (n' i)
    left-ranks n n' ranks same none =
        clear-all N slot_count (λ j. position (get_or xs j d)) (λ j. position (get_or xs' j d)) n n' slot ranks same none
        (λ j h q. let (a, b) = stayed j slot h q in b (sym (ap (λ (x : A). (position x).queue) a) ∙ q))
        (λ i j ne h. (
          (λ q. ap position (after j h)
              ∙ gone-cases (λ x. position x ≡ position (get_or xs j d)) (get_or xs j d) (λ q'. absurd (ne (let z : suc i ≡ suc slot = sym q ∙ q' in omega arith))) (λ _. refl)),
          (λ q. sym (ap (λ (x : A). (position x).queue) (stayed j i h q).0) ∙ q),
        ))

-- ---- The tasks after all waiters of the queue left

module _ {s s' : State} {slot : ℕ} {h : Queue → Queue} (change : QueueChanged s s' slot h) (f : Task → Task) (nw : (w : Task) → (f w).position ≡ no_queue)
    (rdy : (t : ℕ) → t < task_count → (task_at s t).position.queue ≡ suc slot → Ready (f (task_at s t))) (e : s'.tasks ≡ without_waiters slot f s.tasks) where
  pub cleared-waiters : (h (queue_at s slot)).waiters ≡ 0 → (i : ℕ) → i < slot_count → Ranked task_count (λ j. (task_at s' j).position) i (queue_at s' i).waiters
  unfolding without_waiters
  cleared-waiters none =
      left-ranks (λ w. w.position) slot f nw (fresh_task 1) s.tasks change.facts.sized.tasks e (λ i. (queue_at s i).waiters) (λ i. (queue_at s' i).waiters) change.facts.waiters
      (λ i h ne. ap (λ (q : Queue). q.waiters) (CountChange.other change i h ne)) (ap (λ (q : Queue). q.waiters) (CountChange.here change) ∙ none)

  pub cleared-order : (i : ℕ) → Ordered s i → Ordered s' i
  unfolding without_waiters
  cleared-order i o = ordered-kept s s' i (λ j k q. (stayed (λ w. w.position) slot f nw (fresh_task 1) s.tasks change.facts.sized.tasks e j i k q).0) o

  pub cleared-task : (t : ℕ) → t < task_count → sound_task s' t (task_at s' t) ≡ true
  unfolding without_waiters
  cleared-task t k =
      subst (λ (w : Task). sound_task s' t w ≡ true) (sym (after (λ w. w.position) slot f nw (fresh_task 1) s.tasks change.facts.sized.tasks e t k))
      (gone-cases (λ w. w.position) slot f (λ w. sound_task s' t w ≡ true) (task_at s t)
      (λ q. ready-sound s' t _ (rdy t k q))
      (λ n. ⊎_elim (λ r. ready-sound s' t _ r)
      (λ w. waiting-sound s' t _ (waiting-same s s' t _ w (still change w.slot w.slot_below (λ z. n (w.queue ∙ ap suc z)))))
      (task-rules s t _ (change.facts.task t k))))

-- ---- The pool after all messages of the queue are removed

pub free-sound' : (s : State) (b : ℕ) → sound_buffer s b free_buffer ≡ true
unfolding all_zero
free-sound' s b = unused-sound s b free_buffer (record { queue = refl; rank = refl; message_length = refl; reserved = refl; bytes = refl })

module _ {s s' : State} {slot : ℕ} {h : Queue → Queue} (change : QueueChanged s s' slot h) (e : s'.pool ≡ without_messages slot s.pool) where
  pub emptied-messages : (h (queue_at s slot)).pending ≡ 0 → (i : ℕ) → i < slot_count → Ranked buffer_count (λ j. (buffer_at s' j).position) i (queue_at s' i).pending
  unfolding without_messages
  emptied-messages none =
      left-ranks (λ m. m.position) slot (λ _. free_buffer) (λ _. refl) free_buffer s.pool change.facts.sized.pool e (λ i. (queue_at s i).pending) (λ i. (queue_at s' i).pending) change.facts.messages
      (λ i h ne. ap (λ (q : Queue). q.pending) (CountChange.other change i h ne)) (ap (λ (q : Queue). q.pending) (CountChange.here change) ∙ none)

  pub emptied-buffer : (b : ℕ) → b < buffer_count → sound_buffer s' b (buffer_at s' b) ≡ true
  unfolding without_messages
  emptied-buffer b k =
      subst (λ (m : Buffer). sound_buffer s' b m ≡ true) (sym (after (λ m. m.position) slot (λ _. free_buffer) (λ _. refl) free_buffer s.pool change.facts.sized.pool e b k))
      (gone-cases (λ m. m.position) slot (λ _. free_buffer) (λ m. sound_buffer s' b m ≡ true) (buffer_at s b)
      (λ _. free-sound' s' b)
      (λ n. ⊎_elim (λ u. unused-sound s' b _ u)
      (λ u. used_sound s' b _ (used-same s s' b _ u (still change u.slot u.slot_below (λ z. n (u.queue ∙ ap suc z)))))
      (buffer-rules s b _ (change.facts.buffer b k))))

-- ---- Broadcast

-- a message that is not refused fits a buffer
pub broadcast-short : (s : State) → SoundFacts s → (slot : ℕ) → slot < slot_count → (message : List ℕ) → (queue_at s slot).live ≡ 1
    → size_allowed (queue_at s slot) (length message) ≡ true → length message ≤ capacity
broadcast-short s g slot slot< message live allowed =
    let h = size-at-most _ _ allowed in
    let k = (live_of _ (g.queue slot slot<) (inr (inr live))).size-high in
    omega arith

pub broadcast-sound : (s : State) → SoundFacts s → (slot : ℕ) → slot < slot_count → (message : List ℕ) → (queue_at s slot).live ≡ 1 → size_allowed (queue_at s slot) (length message) ≡ true
    → SoundFacts (Broadcast.effect s slot message).after
unfolding Broadcast.effect without_waiters
broadcast-sound s g slot slot< message live allowed =
    CountChange.counted change (same-but-counts _ _ _)
    (live-sound _ (live-waiters _ _ (inr refl) l))
    (λ b h. buffer-kept s s' b (buffer_at s b) kept (g.buffer b h))
    (CountChange.messages-stay change refl)
    (cleared-waiters change (with_message message) (λ w. refl) rdy refl refl)
    (λ i h p. cleared-order change (with_message message) (λ w. refl) rdy refl i (g.order i h p))
    (cleared-task change (with_message message) (λ w. refl) rdy refl)
  where
    s' : State
    s' = record { queues = map_with_index (at_index slot (with_waiters 0)) s.queues; pool = s.pool; tasks = without_waiters slot (with_message message) s.tasks }

    sized' : Sized s'
    sized' =
        record
        { queues = length-mapped _ s.queues ∙ g.sized.queues; pool = g.sized.pool; tasks = length-mapped _ s.tasks ∙ g.sized.tasks }

    change : QueueChanged s s' slot (with_waiters 0)
    change = record { facts = g; sized = sized'; inside = slot<; queues = refl }

    kept : Kept s s'
    kept = CountChange.kept change (same-but-counts _ _ _)

    l : Live (queue_at s slot)
    l = live_of _ (g.queue slot slot<) (inr (inr live))

    rdy : (t : ℕ) → t < task_count → (task_at s t).position.queue ≡ suc slot → Ready (with_message message (task_at s t))
    rdy t h q = with_message-ready s g t h message (broadcast-short s g slot slot< message live allowed)

-- ---- Flush

pub flush-sound : (s : State) → SoundFacts s → (slot : ℕ) → slot < slot_count → (queue_at s slot).live ≡ 1 → SoundFacts (Flush.effect s slot).after
unfolding Flush.effect without_messages
flush-sound s g slot slot< live =
    CountChange.counted change (same-but-counts _ _ _)
    (live-sound _ (live-pending _ _ (omega arith) (inl refl) l))
    (emptied-buffer change refl)
    (emptied-messages change refl refl)
    (CountChange.waiters-stay change refl)
    g.order
    (λ t h. task-kept s s' t (task_at s t) kept (g.task t h))
  where
    s' : State
    s' = record { queues = map_with_index (at_index slot (with_pending 0)) s.queues; pool = without_messages slot s.pool; tasks = s.tasks }

    sized' : Sized s'
    sized' =
        record
        { queues = length-mapped _ s.queues ∙ g.sized.queues; pool = length-mapped _ s.pool ∙ g.sized.pool; tasks = g.sized.tasks }

    change : QueueChanged s s' slot (with_pending 0)
    change = record { facts = g; sized = sized'; inside = slot<; queues = refl }

    kept : Kept s s'
    kept = CountChange.kept change (same-but-counts _ _ _)

    l : Live (queue_at s slot)
    l = live_of _ (g.queue slot slot<) (inr (inr live))
