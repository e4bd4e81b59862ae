-- A change of one queue's counts: what it asks of the other records. Assumes nothing.
use Prim.Native.Nat.{ℕ, ◌%◌, ◌≤◌, ◌<◌}
use native.Mathlib.Omega.{arith}
use mathlib.Core.Path.{◌≡◌, sym, ◌∙◌, subst}
use mathlib.Core.Bool.{true}
use lib.Dec.{eqb}
use Rattle.ranks.specs.Lists.{map_with_index}
use Rattle.records.specs.Layout.{slot_count, buffer_count, task_count}
use Rattle.records.specs.Split.{share_limit}
use Rattle.records.specs.Records.{Queue, State, queue_at, buffer_at, task_at, free_queue, has_priority}
use Rattle.specification.specs.Sound.{sound_queue, sound_buffer, sound_task}
use Rattle.records.specs.Changes.{at_index}
use Rattle.ranks.proofs.Lists.{at-mapped}
use Rattle.ranks.proofs.Ranks.{Ranked}
use Rattle.specification.proofs.SoundFacts.{Sized, SoundFacts, Ordered}
use Rattle.theorems.proofs.KeptQueues.{at_here, at_other, at_both, Same, same, Kept, limits-kept}

-- The queues of s' are those of the sound tables s, with f done to the one in the slot.
pub record QueueChanged (s s' : State) (slot : ℕ) (f : Queue → Queue) : Type 0 where
  pub facts : SoundFacts s
  pub sized : Sized s'
  pub inside : slot < slot_count
  pub queues : s'.queues ≡ map_with_index (at_index slot f) s.queues

module _ {s s' : State} {slot : ℕ} {f : Queue → Queue} (change : QueueChanged s s' slot f) where
  pub after : (i : ℕ) → i < slot_count → queue_at s' i ≡ at_index slot f i (queue_at s i)
  after i h = rw change.queues (at-mapped (at_index slot f) s.queues i (free_queue 0) (free_queue 0) (omega (arith, change.facts.sized.queues)))

  pub here : queue_at s' slot ≡ f (queue_at s slot)
  here = after slot change.inside ∙ at_here slot f (queue_at s slot)

  pub other : (i : ℕ) → i < slot_count → (i ≡ slot → ⊥) → queue_at s' i ≡ queue_at s i
  other i h ne = after i h ∙ at_other slot f i (queue_at s i) ne

  pub still : (i : ℕ) → i < slot_count → (i ≡ slot → ⊥) → Same (queue_at s i) (queue_at s' i)
  still i h ne = subst (λ (q : Queue). Same (queue_at s i) q) (sym (other i h ne)) (same _)

  -- what holds of the changed queue and of the others holds of each
  pub of-each : (P : ℕ → Queue → Type 0) → P slot (f (queue_at s slot)) → ((i : ℕ) → i < slot_count → P i (queue_at s i)) → (i : ℕ) → i < slot_count → P i (queue_at s' i)
  of-each P here' others i h =
      subst (λ (q : Queue). P i q) (sym (after i h))
      (at_both P slot f i (queue_at s i) (λ e. subst (λ (k : ℕ). P k (f (queue_at s k))) (sym e) here') (λ _. others i h))

  pub kept : Same (queue_at s slot) (f (queue_at s slot)) → Kept s s'
  kept k = of-each (λ i q. Same (queue_at s i) q) k (λ i h. same (queue_at s i))

  -- the ranks of messages, or of waiters, whose count and table are as they were
  pub messages-stay : (f (queue_at s slot)).pending ≡ (queue_at s slot).pending → (i : ℕ) → i < slot_count
      → Ranked buffer_count (λ b. (buffer_at s b).position) i (queue_at s' i).pending
  messages-stay e =
      of-each (λ i q. Ranked buffer_count (λ b. (buffer_at s b).position) i q.pending)
      (subst (λ (n : ℕ). Ranked buffer_count (λ b. (buffer_at s b).position) slot n) (sym e) (change.facts.messages slot change.inside)) change.facts.messages

  pub waiters-stay : (f (queue_at s slot)).waiters ≡ (queue_at s slot).waiters → (i : ℕ) → i < slot_count
      → Ranked task_count (λ t. (task_at s t).position) i (queue_at s' i).waiters
  waiters-stay e =
      of-each (λ i q. Ranked task_count (λ t. (task_at s t).position) i q.waiters)
      (subst (λ (n : ℕ). Ranked task_count (λ t. (task_at s t).position) slot n) (sym e) (change.facts.waiters slot change.inside)) change.facts.waiters

  -- the tables are sound if the changed queue and the other tables are
  pub counted : Same (queue_at s slot) (f (queue_at s slot))
      → sound_queue (f (queue_at s slot)) ≡ true
      → ((b : ℕ) → b < buffer_count → sound_buffer s' b (buffer_at s' b) ≡ true)
      → ((i : ℕ) → i < slot_count → Ranked buffer_count (λ b. (buffer_at s' b).position) i (queue_at s' i).pending)
      → ((i : ℕ) → i < slot_count → Ranked task_count (λ t. (task_at s' t).position) i (queue_at s' i).waiters)
      → ((i : ℕ) → i < slot_count → has_priority (queue_at s i) ≡ true → Ordered s' i)
      → ((t : ℕ) → t < task_count → sound_task s' t (task_at s' t) ≡ true)
      → SoundFacts s'
  counted k q bs ms ws o ts =
      record {
        sized = change.sized;
        queue = of-each (λ i x. sound_queue x ≡ true) q change.facts.queue;
        limit = λ p h. subst (λ (n : ℕ). n ≤ share_limit p) (sym (limits-kept s s' change.facts.sized change.sized (kept k) p)) (change.facts.limit p h);
        buffer = bs;
        messages = ms;
        waiters = ws;
        order = λ i h p. o i h (subst (λ (n : ℕ). eqb (n % 2) 1 ≡ true) (kept k i h).attributes p);
        task = ts;
      }
