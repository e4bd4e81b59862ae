-- What is known of the tables and of the caller once the tests 16, 10 and 11 have passed. Assumes nothing.
use Prim.Native.Nat.{ℕ, ◌<◌, ◌≤◌}
use native.Mathlib.Omega.{arith}
use mathlib.Core.Path.{◌≡◌, ap, subst}
use mathlib.Core.Bool.{true}
use mathlib.Core.Logic.{⊎_elim}
use mathlib.Core.List.{List, [], ◌∷◌}
use lib.Dec.{eqb, ltb}
use lib.ListN.{length}
use borrow.Author.Tests.{ltb-true, leb-true}
use Rattle.ranks.specs.Lists.{every, find_index}
use Rattle.ranks.specs.Steps.{Room}
use Rattle.ranks.specs.Table.{records}
use Rattle.ranks.proofs.ByRank.{held-bound}
use Rattle.ranks.proofs.Lists.{holds}
use Rattle.records.specs.Layout.{queues_size, pool_size, tasks_size, capacity, largest_limit, last_generation, slot_count, queue_width, buffer_count, buffer_position, buffer_width, task_count, task_position, task_width}
use Rattle.records.specs.Split.{share_count, share_of_slot, share_of_task}
use Rattle.records.specs.Records.{Queue, Buffer, Task, State, attributes_allowed, limit_allowed, max_size_allowed, size_allowed, free_queue, queue_at, buffer_at, task_at}
use Rattle.records.specs.Bytes.{tables, decode_queue, decode_buffer, decode_task, decode_queues, decode, encode, right_lengths, decode_queue_at, decode_buffer_at}
use Rattle.records.proofs.Access.{queue-at, buffer-at, task-at}
use Rattle.records.proofs.ByteLists.{Slice, bytes-lent}
use Rattle.records.proofs.EncodeDecode.{lengths, encode-decode}
use Rattle.records.proofs.Tabled.{slot-share-below, task-share-below}
use Rattle.specification.specs.Create.{is_free_slot}
use Rattle.specification.specs.Sound.{sound_queue, sound}
use Rattle.specification.proofs.Accepted.{ready-caller}
use Rattle.specification.proofs.Rules.{bounds, size-at-most, Unused, queue-rules, buffer-rules}
use Rattle.specification.proofs.SoundFacts.{SoundFacts, sound-facts, tasks-ranked}
use Rattle.theorems.proofs.FieldsInRange.{decoded-sized}
use Rattle.common_refusals.specs.Tested.{Callable}
use Rattle.objects.specs.Slots.{SlotReady}
use Rattle.objects.proofs.Searches.{search-found}
use Rattle.coremsg.proofs.Room.{room-behind}

-- a message of a size that a sound queue allows fits into a record
fits : (q : Queue) (size : ℕ) → sound_queue q ≡ true → size_allowed q size ≡ true → size ≤ capacity
fits q size sound-q e =
    ⊎_elim (λ l. omega (arith, size-at-most q size e, l.size-high)) (λ f. omega (arith, size-at-most q size e, f.max_size)) (queue-rules q sound-q)

module _ (q p w : List ℕ) (caller : ℕ) (ok : Callable (tables q p w) caller) where
  -- ---- The lengths, and the caller

  pub queues_sized : length q ≡ queues_size
  queues_sized = (lengths (tables q p w) ok.lengths).0

  pub pool_sized : length p ≡ pool_size
  pool_sized = (lengths (tables q p w) ok.lengths).1

  pub tasks_sized : length w ≡ tasks_size
  tasks_sized = (lengths (tables q p w) ok.lengths).2

  pub task_caller : caller < task_count
  task_caller = (ready-caller (decode (tables q p w)) caller ok.ready).below

  -- the tables that the code leaves are bytes of the same lengths
  pub written : (q' p' w' : List ℕ) → length q' ≡ length q → length p' ≡ length p → length w' ≡ length w → Slice q' → Slice p' → Slice w'
      → encode (decode (tables q' p' w')) ≡ tables q' p' w'
  unfolding right_lengths
  written q' p' w' lq lp lw bq bp bw =
      let same : right_lengths (tables q' p' w') ≡ true = rw (lq, lp, lw) ok.lengths in
      encode-decode (tables q' p' w') (record { lengths = same; queues = bytes-lent q' bq; pool = bytes-lent p' bp; tasks = bytes-lent w' bw })

  -- ---- The queue in a slot

  abbrev s : State
  s = decode (tables q p w)

  known : SoundFacts s
  known = sound-facts s (decoded-sized (tables q p w)) ok.is_sound

  pub queues_sound : every (λ i x. sound_queue x) (decode_queues q) ≡ true
  unfolding sound decode
  queues_sound = (holds _ ok.is_sound).0

  module _ (slot : ℕ) (h : slot < slot_count) where
    here : queue_at s slot ≡ decode_queue_at slot q
    here = queue-at (tables q p w) slot h

    sound-here : sound_queue (decode_queue_at slot q) ≡ true
    sound-here = subst (λ (x : Queue). sound_queue x ≡ true) here (known.queue slot h)

    pub allowed_fits : (size : ℕ) → size_allowed (decode_queue_at slot q) size ≡ true → size ≤ capacity
    allowed_fits size allowed = fits (decode_queue_at slot q) size sound-here allowed

    pub few_messages : (decode_queue_at slot q).pending < 255
    few_messages = ⊎_elim (λ l. omega (arith, l.pending, l.limit-high)) (λ f. omega (arith, f.pending)) (queue-rules _ sound-here)

    -- at most all tasks wait in a queue
    few-waiters : (queue_at s slot).waiters ≤ task_count
    few-waiters = held-bound (tasks-ranked s known slot h)

    pub few_waiters : (decode_queue_at slot q).waiters < 255
    few_waiters = omega (arith, ap (λ (x : Queue). x.waiters) here, few-waiters)

    pub message_room : Room buffer_position slot (records buffer_count buffer_width p)
    unfolding decode_buffer
    message_room =
        room-behind buffer_position buffer_count buffer_width slot _ p (λ j. (buffer_at s j).position) (λ j below. ap (λ (m : Buffer). m.position) (buffer-at (tables q p w) j below))
        (known.messages slot h) (omega (arith, ap (λ (x : Queue). x.pending) here, few_messages))

    pub waiter_room : Room task_position slot (records task_count task_width w)
    unfolding decode_task
    waiter_room =
        room-behind task_position task_count task_width slot _ w (λ j. (task_at s j).position) (λ j below. ap (λ (x : Task). x.position) (task-at (tables q p w) j below))
        (known.waiters slot h) (omega (arith, few-waiters))

  -- ---- The message in a buffer

  module _ (b : ℕ) (h : b < buffer_count) where
    pub message_short : (buffer_at s b).message_length ≤ capacity
    message_short =
        ⊎_elim (λ (f : Unused (buffer_at s b)). omega (arith, f.message_length)) (λ u. fits (queue_at s u.slot) _ (known.queue u.slot u.slot_below) u.size)
        (buffer-rules s b (buffer_at s b) (known.buffer b h))

    pub message_fits : (decode_buffer_at b p).message_length ≤ capacity
    message_fits = subst (λ (m : Buffer). m.message_length ≤ capacity) (buffer-at (tables q p w) b h) message_short

-- ---- Shares

pub slot_shared : (slot share : ℕ) → slot < slot_count → share ≡ share_of_slot slot → share < share_count
slot_shared slot share h e = rw e (slot-share-below slot h)

pub task_shared : (k share : ℕ) → k < task_count → share ≡ share_of_task k → share < share_count
task_shared k share h e = rw e (task-share-below k h)

-- ---- What create asks

-- a free slot that was found is not spent
pub slot_ready : (q : List ℕ) (share slot : ℕ) → length q ≡ queues_size → slot ≡ find_index (is_free_slot share) (decode_queues q) → slot < slot_count → SlotReady q slot
slot_ready q share slot sized found below =
    let x = decode_queue_at slot q in
    let free : is_free_slot share slot x ≡ true = search-found decode_queue (free_queue 0) slot_count queue_width (is_free_slot share) q slot below found in
    let (unused, (own, (unspent, _))) = holds (eqb x.live 0 ∷ eqb (share_of_slot slot) share ∷ ltb x.generation last_generation ∷ []) free in
    record { queues_length = sized; slot_below = below; not_spent = ltb-true _ _ unspent }

pub limit_small : (n : ℕ) → limit_allowed n ≡ true → n ≤ largest_limit
limit_small n e = (bounds _ _ _ e).1

pub size_small : (n : ℕ) → max_size_allowed n ≡ true → n ≤ capacity
size_small n e = (bounds _ _ _ e).1

pub attributes_small : (n : ℕ) → attributes_allowed n ≡ true → n ≤ 3
attributes_small n e = leb-true n 3 e

pub ruleset called = (queues_sized, pool_sized, tasks_sized, task_caller, written, queues_sound, allowed_fits, few_messages, few_waiters, message_room, waiter_room, message_short, message_fits, slot_shared, task_shared, slot_ready, limit_small, size_small, attributes_small)
