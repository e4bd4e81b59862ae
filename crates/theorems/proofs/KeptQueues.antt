-- What a change of a queue's counts leaves as it was. Assumes nothing.
use Prim.Native.Nat.{ℕ, suc, ◌/◌, ◌%◌, ◌≤◌, ◌<◌}
use native.Mathlib.Omega.{arith}
use mathlib.Core.Path.{◌≡◌, refl, sym, ap, ap₂, ◌∙◌, subst}
use mathlib.Core.Bool.{Bool, true, ◌&&◌, ◌||◌}
use mathlib.Core.Logic.{◌⊎◌, inl, inr, ⊎_elim}
use lib.Dec.{eqb}
use borrow.Author.Tests.{eq-eqb, ne_eqb}
use Rattle.records.specs.Layout.{slot_count, task_count}
use Rattle.std.specs.Prelude.{if◌then◌else◌}
use Rattle.ranks.specs.Lists.{all_true, sum_of}
use Rattle.records.specs.Split.{share_of_slot, share_of_task}
use Rattle.ranks.specs.Position.{Position}
use Rattle.records.specs.Records.{Queue, Buffer, Task, State, queue_at, task_at, free_queue}
use Rattle.specification.specs.Sound.{limits, sound_queue, sound_buffer, sound_task, task_rules}
use Rattle.records.specs.Changes.{at_index, with_counts, with_pending, with_waiters, move_buffer, move_task}
use Rattle.ranks.proofs.Ranks.{Moved}
use Rattle.ranks.proofs.Lists.{mapped-cong}
use Rattle.ranks.proofs.Tests.{same?}
use Rattle.specification.proofs.Rules.{size_same, Live, Free, Used, Unused, Ready, Waiting, queue-rules, buffer-rules, used_sound, unused-sound, task-rules, ready-sound, waiting-sound}
use Rattle.specification.proofs.SoundFacts.{Sized, Ordered}

-- ---- One record changed

pub at_here : {A : Type 0} (i : ℕ) (f : A → A) (a : A) → at_index i f i a ≡ f a
at_here i f a = rw (eq-eqb i i refl)

pub at_other : {A : Type 0} (i : ℕ) (f : A → A) (j : ℕ) (a : A) → (j ≡ i → ⊥) → at_index i f j a ≡ a
at_other i f j a ne = rw (ne_eqb j i ne)

-- one record is treated in another way than the others
pub if-at : {A : Type 0} (P : A → Type 0) (j i : ℕ) (x y : A) → (j ≡ i → P x) → ((j ≡ i → ⊥) → P y) → P (if eqb j i then x else y)
if-at P j i x y h k = go (same? j i)
  where
    go : (j ≡ i) ⊎ (j ≡ i → ⊥) → P (if eqb j i then x else y)
    go (inl e) = subst (λ (b : Bool). P (if b then x else y)) (sym (eq-eqb j i e)) (h e)
    go (inr n) = subst (λ (b : Bool). P (if b then x else y)) (sym (ne_eqb j i n)) (k n)

-- what holds of a record and of the changed record holds of what is at any place
pub at_both : {A : Type 0} (P : ℕ → A → Type 0) (i : ℕ) (f : A → A) (j : ℕ) (a : A) → (j ≡ i → P j (f a)) → ((j ≡ i → ⊥) → P j a) → P j (at_index i f j a)
at_both P i f j a h k = if-at (P j) j i (f a) a h k

-- ---- Counts

live-counts : (q : Queue) (p w : ℕ) → p ≤ q.limit → (p ≡ 0) ⊎ (w ≡ 0) → Live q → Live (with_counts p w q)
live-counts q p w h e l =
    record {
      live = l.live;
      attributes = l.attributes;
      limit-low = l.limit-low;
      limit-high = l.limit-high;
      size_low = l.size_low;
      size-high = l.size-high;
      generation = l.generation;
      name = l.name;
      reserved = l.reserved;
      pending = h;
      either = e;
    }

pub live-waiters : (q : Queue) (n : ℕ) → (q.pending ≡ 0) ⊎ (n ≡ 0) → Live q → Live (with_waiters n q)
live-waiters q n e l = live-counts q q.pending n l.pending e l

pub live-pending : (q : Queue) (n : ℕ) → n ≤ q.limit → (n ≡ 0) ⊎ (q.waiters ≡ 0) → Live q → Live (with_pending n q)
live-pending q n h e l = live-counts q n q.waiters h e l

-- a queue with something in it is live
pub live_of : (q : Queue) → sound_queue q ≡ true → (1 ≤ q.pending) ⊎ (1 ≤ q.waiters) ⊎ (q.live ≡ 1) → Live q
live_of q e w = go (queue-rules q e) w
  where
    go : Live q ⊎ Free q → (1 ≤ q.pending) ⊎ (1 ≤ q.waiters) ⊎ (q.live ≡ 1) → Live q
    go (inl l) w = l
    go (inr f) (inl h) = absurd (let e = f.pending in omega arith)
    go (inr f) (inr (inl h)) = absurd (let e = f.waiters in omega arith)
    go (inr f) (inr (inr h)) = absurd (let e = f.live in omega arith)

-- ---- Queues that are the same but for their counts

pub record Same (q q' : Queue) : Type 0 where
  pub live : q'.live ≡ q.live
  pub attributes : q'.attributes ≡ q.attributes
  pub limit : q'.limit ≡ q.limit
  pub max_size : q'.max_size ≡ q.max_size

pub same : (q : Queue) → Same q q
same q = record { live = refl; attributes = refl; limit = refl; max_size = refl }

pub same-but-counts : (q : Queue) (pending waiters : ℕ) → Same q (with_counts pending waiters q)
same-but-counts q pending waiters = record { live = refl; attributes = refl; limit = refl; max_size = refl }

abbrev pub Kept : State → State → Type 0
Kept s s' = (i : ℕ) → i < slot_count → Same (queue_at s i) (queue_at s' i)

pub limits-kept : (s s' : State) → Sized s → Sized s' → Kept s s' → (p : ℕ) → limits s' p ≡ limits s p
unfolding limits
limits-kept s s' z z' k p =
    ap sum_of
    (mapped-cong _ _ s'.queues s.queues (free_queue 0) (free_queue 0) 0 (z'.queues ∙ sym z.queues)
    (λ i h.
    let e = k i (omega (arith, z'.queues)) in
    ap₂ (λ (l n : ℕ). if eqb (share_of_slot i) p && eqb l 1 then n else 0) e.live e.limit))

-- a used buffer whose queue is kept
pub used-same : (s s' : State) (b : ℕ) (m : Buffer) (u : Used s b m) → Same (queue_at s u.slot) (queue_at s' u.slot) → Used s' b m
used-same s s' b m u e =
    record {
      slot = u.slot;
      queue = u.queue;
      slot_below = u.slot_below;
      live = e.live ∙ u.live;
      share = u.share;
      size = size_same _ _ _ e.max_size u.size;
      reserved = u.reserved;
      rest = u.rest;
    }

pub used-kept : {s s' : State} {b : ℕ} {m : Buffer} → Kept s s' → Used s b m → Used s' b m
used-kept {s} {s'} {b} {m} k u = used-same s s' b m u (k u.slot u.slot_below)

pub buffer-kept : (s s' : State) (b : ℕ) (m : Buffer) → Kept s s' → sound_buffer s b m ≡ true → sound_buffer s' b m ≡ true
buffer-kept s s' b m k e = ⊎_elim (λ u. unused-sound s' b m u) (λ u. used_sound s' b m (used-kept k u)) (buffer-rules s b m e)

-- a task that waits as another does, in a queue that is kept
pub waiting-like : (s s' : State) (t : ℕ) (w w' : Task) (u : Waiting s t w) → Same (queue_at s u.slot) (queue_at s' u.slot)
    → all_true (task_rules w') ≡ true → w'.state ≡ w.state → w'.position.queue ≡ w.position.queue → w'.status ≡ w.status
    → w'.message_length ≡ w.message_length → Waiting s' t w'
waiting-like s s' t w w' u e rules state queue status size =
    record {
      rules = rules;
      state = state ∙ u.state;
      slot = u.slot;
      queue = queue ∙ u.queue;
      slot_below = u.slot_below;
      live = e.live ∙ u.live;
      access = subst (λ (n : ℕ). (eqb (share_of_slot u.slot) (share_of_task t) || eqb (n / 2 % 2) 1) ≡ true) (sym e.attributes) u.access;
      status = status ∙ u.status;
      message_length = size ∙ u.message_length;
    }

-- a waiting task whose queue is kept
pub waiting-same : (s s' : State) (t : ℕ) (w : Task) (u : Waiting s t w) → Same (queue_at s u.slot) (queue_at s' u.slot) → Waiting s' t w
waiting-same s s' t w u e = waiting-like s s' t w w u e u.rules refl refl refl refl

pub waiting_kept : {s s' : State} {t : ℕ} {w : Task} → Kept s s' → Waiting s t w → Waiting s' t w
waiting_kept {s} {s'} {t} {w} k u = waiting-same s s' t w u (k u.slot u.slot_below)

pub task-kept : (s s' : State) (t : ℕ) (w : Task) → Kept s s' → sound_task s t w ≡ true → sound_task s' t w ≡ true
task-kept s s' t w k e = ⊎_elim (λ r. ready-sound s' t w r) (λ u. waiting-sound s' t w (waiting_kept k u)) (task-rules s t w e)

-- ---- A record whose place is moved

pub moved-buffer : (s s' : State) (b : ℕ) (m : Buffer) (p : Position) → Kept s s' → Moved m.position p → sound_buffer s b m ≡ true
    → sound_buffer s' b (move_buffer p m) ≡ true
moved-buffer s s' b m p k (q, stay) e = ⊎_elim unused used (buffer-rules s b m e)
  where
    unused : Unused m → sound_buffer s' b (move_buffer p m) ≡ true
    unused u =
        subst (λ (x : Position). sound_buffer s' b (move_buffer x m) ≡ true) (sym (stay u.queue)) (unused-sound s' b m u)

    used : Used s b m → sound_buffer s' b (move_buffer p m) ≡ true
    used u =
        used_sound s' b _
        (used-same s s' b (move_buffer p m)
        (record {
          slot = u.slot;
          queue = q ∙ u.queue;
          slot_below = u.slot_below;
          live = u.live;
          share = u.share;
          size = u.size;
          reserved = u.reserved;
          rest = u.rest;
        })
        (k u.slot u.slot_below))

pub moved-task : (s s' : State) (t : ℕ) (w : Task) (p : Position) → Kept s s' → Moved w.position p → sound_task s t w ≡ true
    → sound_task s' t (move_task p w) ≡ true
unfolding task_rules
moved-task s s' t w p k (q, stay) e = ⊎_elim ready waits (task-rules s t w e)
  where
    ready : Ready w → sound_task s' t (move_task p w) ≡ true
    ready r = subst (λ (x : Position). sound_task s' t (move_task x w) ≡ true) (sym (stay r.queue)) (ready-sound s' t w r)

    waits : Waiting s t w → sound_task s' t (move_task p w) ≡ true
    waits u = waiting-sound s' t _ (waiting-like s s' t w (move_task p w) u (k u.slot u.slot_below) u.rules refl q refl refl)

-- the order stays if the tasks in the queue are as they were
pub ordered-kept : (s s' : State) (i : ℕ) → ((j : ℕ) → j < task_count → (task_at s' j).position.queue ≡ suc i → task_at s' j ≡ task_at s j) → Ordered s i → Ordered s' i
ordered-kept s s' i e o a b ha hb qa qb lt =
    let ea = e a ha qa in
    let eb = e b hb qb in
    let ra = ap (λ (w : Task). w.position.rank) ea in
    let rb = ap (λ (w : Task). w.position.rank) eb in
    let pa = ap (λ (w : Task). w.priority) ea in
    let pb = ap (λ (w : Task). w.priority) eb in
    let r = o a b ha hb (sym (ap (λ (w : Task). w.position.queue) ea) ∙ qa) (sym (ap (λ (w : Task). w.position.queue) eb) ∙ qb) (omega arith) in
    omega arith
