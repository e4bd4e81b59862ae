-- A message that is queued leaves sound tables. Assumes nothing.
use Prim.Native.Nat.{ℕ, zero, suc, ◌≤◌, ◌<◌}
use mathlib.Core.Path.{◌≡◌, refl, sym, ap, ◌∙◌, subst}
use mathlib.Core.Bool.{true}
use mathlib.Core.Logic.{inr}
use mathlib.Core.List.{List}
use lib.Dec.{eqb}
use lib.ListN.{length, drop, replicate}
use lib.Seq.{drop-append_seam}
use Rattle.std.specs.Prelude.{if◌then◌else◌}
use Rattle.ranks.specs.Lists.{all_zero}
use Rattle.records.specs.Layout.{slot_count, buffer_count, capacity}
use Rattle.records.specs.Split.{share_of_slot, share_of_buffer}
use Rattle.ranks.specs.Position.{Position, position_at}
use Rattle.records.specs.Records.{size_allowed, Queue, Buffer, State, queue_at, buffer_at, task_at}
use Rattle.ranks.specs.Steps.{inserted}
use Rattle.specification.specs.Sound.{sound_buffer}
use Rattle.records.specs.Changes.{with_pending, move_buffer, overwrite_front, message_buffer}
use Rattle.specification.specs.Submit.{enqueued}
use Rattle.ranks.proofs.Lists.{length-mapped}
use Rattle.specification.proofs.Rules.{Live, Used, live-sound, used_sound}
use Rattle.ranks.proofs.Ranks.{in_itself, in_moved, insert_all}
use Rattle.specification.proofs.SoundFacts.{Sized, SoundFacts, buffers-ranked}
use Rattle.theorems.proofs.ListSteps.{stepped-at, stepped-changed}
use Rattle.theorems.proofs.KeptQueues.{if-at, live-pending, live_of, Kept, used-kept, task-kept, moved-buffer, same-but-counts}
use Rattle.theorems.proofs.CountChange
use Rattle.theorems.proofs.CountChange.{QueueChanged}

all_zero-drop : (n k : ℕ) → all_zero (drop n (replicate k 0)) ≡ true
unfolding all_zero
all_zero-drop zero zero = refl
all_zero-drop zero (suc k) = all_zero-drop zero k
all_zero-drop (suc n) zero = refl
all_zero-drop (suc n) (suc k) = all_zero-drop n k

-- after a message of the given length nothing but zeros
all_zero-after : (m : List ℕ) → all_zero (drop (length m) (overwrite_front m (replicate capacity 0))) ≡ true
all_zero-after m = rw (drop-append_seam m (drop (length m) (replicate capacity 0))) (all_zero-drop (length m) capacity)

module _ (s : State) (g : SoundFacts s) (b slot rank : ℕ) (message : List ℕ) (b< : b < buffer_count) (slot< : slot < slot_count)
    (free : (buffer_at s b).position.queue ≡ 0) (live : (queue_at s slot).live ≡ 1) (alone : (queue_at s slot).waiters ≡ 0)
    (room : (queue_at s slot).pending < (queue_at s slot).limit) (owner : share_of_slot slot ≡ share_of_buffer b)
    (allowed : size_allowed (queue_at s slot) (length message) ≡ true) (le : rank ≤ (queue_at s slot).pending) where
  abbrev s' : State
  s' = (enqueued s b slot rank message).after

  abbrev more : Queue → Queue
  more q = with_pending (suc q.pending) q

  abbrev P : ℕ → Position
  P j = (buffer_at s j).position

  sized' : Sized s'
  unfolding enqueued
  sized' =
      record {
        queues = length-mapped _ s.queues ∙ g.sized.queues;
        pool = length-mapped _ s.pool ∙ g.sized.pool;
        tasks = g.sized.tasks;
      }

  change : QueueChanged s s' slot more
  unfolding enqueued
  change = record { facts = g; sized = sized'; inside = slot<; queues = refl }

  abbrev new : Buffer → Buffer
  new m = message_buffer (position_at slot rank) message

  buffer-after : (j : ℕ) → j < buffer_count → buffer_at s' j ≡ (if eqb j b then new (buffer_at s j) else move_buffer (inserted b slot rank j (P j)) (buffer_at s j))
  unfolding enqueued
  buffer-after = stepped-at (buffers-ranked s g slot slot<) move_buffer b new (inserted b slot rank)

  position-after : (j : ℕ) → j < buffer_count → (buffer_at s' j).position ≡ inserted b slot rank j (P j)
  unfolding enqueued
  position-after =
      stepped-changed (buffers-ranked s g slot slot<) move_buffer b new (inserted b slot rank) (λ p m. refl) (λ m. sym (in_itself b slot rank m.position))

  is_live : Live (queue_at s slot)
  is_live = live_of _ (g.queue slot slot<) (inr (inr live))

  kept : Kept s s'
  kept = CountChange.kept change (same-but-counts _ _ _)

  here : queue_at s' slot ≡ more (queue_at s slot)
  here = CountChange.here change

  buffer' : (j : ℕ) → j < buffer_count → sound_buffer s' j (buffer_at s' j) ≡ true
  buffer' j h =
      subst (λ (m : Buffer). sound_buffer s' j m ≡ true) (sym (buffer-after j h))
      (if-at (λ m. sound_buffer s' j m ≡ true) j b (message_buffer (position_at slot rank) message) _
      (λ e. subst (λ (k : ℕ). sound_buffer s' k (message_buffer (position_at slot rank) message) ≡ true) (sym e)
      (used_sound s' b _ (used-kept {s = s} {s' = s'} kept held)))
      (λ ne. moved-buffer s s' j (buffer_at s j) _ kept (in_moved b slot rank j (P j) ne) (g.buffer j h)))
    where
      held : Used s b (message_buffer (position_at slot rank) message)
      held =
          record {
            slot = slot;
            queue = refl;
            slot_below = slot<;
            live = live;
            share = owner;
            size = allowed;
            reserved = all_zero-drop 0 5;
            rest = all_zero-after message;
          }

  pub enqueued-sound : SoundFacts (enqueued s b slot rank message).after
  unfolding enqueued
  enqueued-sound =
      CountChange.counted change (same-but-counts _ _ _)
      (live-sound _ (live-pending _ _ room (inr alone) is_live))
      buffer'
      (insert_all buffer_count slot_count P (λ j. (buffer_at s' j).position) (λ i. (queue_at s i).pending) (λ i. (queue_at s' i).pending) slot g.messages
      (λ i h ne. ap (λ (q : Queue). q.pending) (CountChange.other change i h ne))
      b rank b< slot< free le (ap (λ (q : Queue). q.pending) here) position-after)
      (CountChange.waiters-stay change refl)
      g.order
      (λ t h. task-kept s s' t (task_at s t) kept (g.task t h))
