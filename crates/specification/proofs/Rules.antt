-- The rules of one record as facts. Assumes nothing.
use Rattle.std.specs.Prelude.{if◌then◌else◌}
use Prim.Native.Nat.{ℕ, suc, pred, ◌≤◌, ◌<◌}
use native.Mathlib.Omega.{arith}
use mathlib.Core.Path.{◌≡◌, refl, sym, ap, ◌∙◌}
use mathlib.Core.Bool.{Bool, true, false, ◌||◌}
use mathlib.Core.Logic.{◌⊎◌, inl, inr, ⊎_elim}
use lib.Dec.{eqb, leb}
use lib.ListN.{drop}
use borrow.Author.Tests.{eqb-true, eqb-false, ltb-true, lt-ltb, eq-eqb, ne_eqb, leb-true, le-leb}
use Rattle.ranks.specs.Lists.{all_true, all_zero, within}
use Rattle.records.specs.Layout.{largest_limit, capacity, slot_count}
use Rattle.records.specs.Split.{share_of_slot, share_of_buffer, share_of_task}
use Rattle.ranks.specs.Position.{Position}
use Rattle.records.specs.Records.{Queue, Buffer, Task, State, queue_at, is_live, is_open, is_waiting, size_allowed, ready_state, waiting_state}
use Rattle.specification.specs.Sound.{slot_in, live_queue_rules, free_queue_rules, sound_queue, free_buffer_rules, used_buffer_rules, sound_buffer, task_rules, ready_task_rules, waiting_task_rules, sound_task}
use Rattle.records.specs.Status.{SUCCESSFUL, TIMEOUT, OBJECT-WAS-DELETED, WAITING}
use Rattle.ranks.proofs.Tests.{both, and, or, or_left, or_right}
use Rattle.ranks.proofs.Lists.{holds, held}

pub bounds : (a b n : ℕ) → within a b n ≡ true → (a ≤ n) × (n ≤ b)
unfolding within
bounds a b n e = let (x, y) = both _ _ e in (leb-true _ _ x, leb-true _ _ y)

pub in_bounds : (a b n : ℕ) → a ≤ n → n ≤ b → within a b n ≡ true
unfolding within
in_bounds a b n h k = and (le-leb _ _ h) (le-leb _ _ k)

-- ---- The size rule

pub size-at-most : (q : Queue) (n : ℕ) → size_allowed q n ≡ true → n ≤ q.max_size
unfolding size_allowed
size-at-most q n e = leb-true _ _ e

pub size_same : (q q' : Queue) (n : ℕ) → q'.max_size ≡ q.max_size → size_allowed q n ≡ true → size_allowed q' n ≡ true
unfolding size_allowed
size_same q q' n e h = rw e h

nonzero : (n : ℕ) → 1 ≤ n → n ≡ suc (pred n)
nonzero n h = omega arith

-- ---- Queues

pub record Live (q : Queue) : Type 0 where
  pub live : q.live ≡ 1
  pub attributes : q.attributes ≤ 3
  pub limit-low : 1 ≤ q.limit
  pub limit-high : q.limit ≤ largest_limit
  pub size_low : 1 ≤ q.max_size
  pub size-high : q.max_size ≤ capacity
  pub generation : 1 ≤ q.generation
  pub name : 1 ≤ q.name
  pub reserved : all_zero q.reserved ≡ true
  pub pending : q.pending ≤ q.limit
  pub either : (q.pending ≡ 0) ⊎ (q.waiters ≡ 0)

pub record Free (q : Queue) : Type 0 where
  pub live : q.live ≡ 0
  pub attributes : q.attributes ≡ 0
  pub limit : q.limit ≡ 0
  pub max_size : q.max_size ≡ 0
  pub pending : q.pending ≡ 0
  pub waiters : q.waiters ≡ 0
  pub name : q.name ≡ 0
  pub reserved : all_zero q.reserved ≡ true

either-zero : (a b : ℕ) → (eqb a 0 || eqb b 0) ≡ true → (a ≡ 0) ⊎ (b ≡ 0)
either-zero a b e = go (or _ _ e)
  where
    go : (eqb a 0 ≡ true) ⊎ (eqb b 0 ≡ true) → (a ≡ 0) ⊎ (b ≡ 0)
    go (inl p) = inl (eqb-true _ _ p)
    go (inr p) = inr (eqb-true _ _ p)

zero-either : (a b : ℕ) → (a ≡ 0) ⊎ (b ≡ 0) → (eqb a 0 || eqb b 0) ≡ true
zero-either a b (inl p) = or_left _ (eq-eqb _ _ p)
zero-either a b (inr p) = or_right (eqb a 0) (eq-eqb _ _ p)

live-rules : (q : Queue) → q.live ≡ 1 → all_true (live_queue_rules q) ≡ true → Live q
unfolding live_queue_rules
live-rules q l e =
    let (h1, (h2, (h3, (h4, (h5, (h6, (h7, (h8, h9)))))))) = holds _ e in
    record {
      live = l;
      attributes = leb-true _ _ h1;
      limit-low = (bounds _ _ _ h2).0;
      limit-high = (bounds _ _ _ h2).1;
      size_low = (bounds _ _ _ h3).0;
      size-high = (bounds _ _ _ h3).1;
      generation = leb-true _ _ h4;
      name = leb-true _ _ h5;
      reserved = h6;
      pending = leb-true _ _ h7;
      either = either-zero _ _ h8;
    }

free-rules : (q : Queue) → all_true (free_queue_rules q) ≡ true → Free q
unfolding free_queue_rules
free-rules q e =
    let (h1, (h2, (h3, (h4, (h5, (h6, (h7, (h8, h9)))))))) = holds _ e in
    record {
      live = eqb-true _ _ h1;
      attributes = eqb-true _ _ h2;
      limit = eqb-true _ _ h3;
      max_size = eqb-true _ _ h4;
      pending = eqb-true _ _ h5;
      waiters = eqb-true _ _ h6;
      name = eqb-true _ _ h7;
      reserved = h8;
    }

pub queue-rules : (q : Queue) → sound_queue q ≡ true → Live q ⊎ Free q
unfolding sound_queue
queue-rules q = go (is_live q) refl
  where
    go : (b : Bool) → is_live q ≡ b → (if b then all_true (live_queue_rules q) else all_true (free_queue_rules q)) ≡ true → Live q ⊎ Free q
    go true l e = inl (live-rules q (eqb-true _ _ l) e)
    go false l e = inr (free-rules q e)

pub live-sound : (q : Queue) → Live q → sound_queue q ≡ true
unfolding sound_queue live_queue_rules
live-sound q l =
    rw (eq-eqb _ _ l.live)
    (held _ (
      le-leb _ _ l.attributes,
      (
        in_bounds _ _ _ l.limit-low l.limit-high,
        (
          in_bounds _ _ _ l.size_low l.size-high,
          (
            le-leb _ _ l.generation,
            (le-leb _ _ l.name, (l.reserved, (le-leb _ _ l.pending, (zero-either _ _ l.either, tt)))),
          ),
        ),
      ),
    ))

pub free-sound : (q : Queue) → Free q → sound_queue q ≡ true
unfolding sound_queue free_queue_rules
free-sound q f =
    let ne : eqb q.live 1 ≡ false = ne_eqb _ _ (λ z. let z' : 0 ≡ 1 = sym f.live ∙ z in omega arith) in
    rw ne
    (held _ (
      eq-eqb _ _ f.live,
      (
        eq-eqb _ _ f.attributes,
        (
          eq-eqb _ _ f.limit,
          (
            eq-eqb _ _ f.max_size,
            (eq-eqb _ _ f.pending, (eq-eqb _ _ f.waiters, (eq-eqb _ _ f.name, (f.reserved, tt)))),
          ),
        ),
      ),
    ))

-- ---- Buffers

pub record Unused (m : Buffer) : Type 0 where
  pub queue : m.position.queue ≡ 0
  pub rank : m.position.rank ≡ 0
  pub message_length : m.message_length ≡ 0
  pub reserved : all_zero m.reserved ≡ true
  pub bytes : all_zero m.bytes ≡ true

pub record Used (s : State) (b : ℕ) (m : Buffer) : Type 0 where
  pub slot : ℕ
  pub queue : m.position.queue ≡ suc slot
  pub slot_below : slot < slot_count
  pub live : (queue_at s slot).live ≡ 1
  pub share : share_of_slot slot ≡ share_of_buffer b
  pub size : size_allowed (queue_at s slot) m.message_length ≡ true
  pub reserved : all_zero m.reserved ≡ true
  pub rest : all_zero (drop m.message_length m.bytes) ≡ true

used-rules : (s : State) (b : ℕ) (m : Buffer) → (m.position.queue ≡ 0 → ⊥)
    → all_true (used_buffer_rules (queue_at s (slot_in m.position)) (slot_in m.position) b m) ≡ true → Used s b m
unfolding used_buffer_rules
used-rules s b m ne e =
    let (h1, (h2, (h3, (h4, (h5, (h6, h7)))))) = holds _ e in
    record {
      slot = slot_in m.position;
      queue = nonzero m.position.queue (omega arith);
      slot_below = ltb-true _ _ h1;
      live = eqb-true _ _ h2;
      share = eqb-true _ _ h3;
      size = h4;
      reserved = h5;
      rest = h6;
    }

pub buffer-rules : (s : State) (b : ℕ) (m : Buffer) → sound_buffer s b m ≡ true → Unused m ⊎ Used s b m
unfolding sound_buffer free_buffer_rules
buffer-rules s b m = go (eqb m.position.queue 0) refl
  where
    go : (t : Bool) → eqb m.position.queue 0 ≡ t
        → (if t then all_true (free_buffer_rules m) else all_true (used_buffer_rules (queue_at s (slot_in m.position)) (slot_in m.position) b m)) ≡ true
        → Unused m ⊎ Used s b m
    go true z e =
        let (h1, (h2, (h3, (h4, _)))) = holds _ e in
        inl (record { queue = eqb-true _ _ z; rank = eqb-true _ _ h1; message_length = eqb-true _ _ h2; reserved = h3; bytes = h4 })
    go false z e = inr (used-rules s b m (eqb-false _ _ z) e)

pub unused-sound : (s : State) (b : ℕ) (m : Buffer) → Unused m → sound_buffer s b m ≡ true
unfolding sound_buffer free_buffer_rules
unused-sound s b m u = rw (eq-eqb _ _ u.queue) (held _ (eq-eqb _ _ u.rank, (eq-eqb _ _ u.message_length, (u.reserved, (u.bytes, tt)))))

pub used_sound : (s : State) (b : ℕ) (m : Buffer) → Used s b m → sound_buffer s b m ≡ true
unfolding sound_buffer used_buffer_rules
used_sound s b m u =
    let e : slot_in m.position ≡ u.slot = ap pred u.queue in
    let ne : eqb m.position.queue 0 ≡ false = ne_eqb _ _ (λ z. let z' : suc u.slot ≡ 0 = sym u.queue ∙ z in omega arith) in
    rw (ne, e)
    (held _ (
      lt-ltb _ _ u.slot_below,
      (eq-eqb _ _ u.live, (eq-eqb _ _ u.share, (u.size, (u.reserved, (u.rest, tt))))),
    ))

-- ---- Tasks

pub record Ready (w : Task) : Type 0 where
  pub rules : all_true (task_rules w) ≡ true
  pub state : w.state ≡ ready_state
  pub queue : w.position.queue ≡ 0
  pub rank : w.position.rank ≡ 0
  pub ticks_left : w.ticks_left ≡ 0
  pub status : (eqb w.status SUCCESSFUL || eqb w.status TIMEOUT || eqb w.status OBJECT-WAS-DELETED) ≡ true
  pub message_length : w.message_length ≤ capacity

pub record Waiting (s : State) (t : ℕ) (w : Task) : Type 0 where
  pub rules : all_true (task_rules w) ≡ true
  pub state : w.state ≡ waiting_state
  pub slot : ℕ
  pub queue : w.position.queue ≡ suc slot
  pub slot_below : slot < slot_count
  pub live : (queue_at s slot).live ≡ 1
  pub access : (eqb (share_of_slot slot) (share_of_task t) || is_open (queue_at s slot)) ≡ true
  pub status : w.status ≡ WAITING
  pub message_length : w.message_length ≡ 0

waiting-rules : (s : State) (t : ℕ) (w : Task) → all_true (task_rules w) ≡ true → w.state ≡ waiting_state
    → all_true (waiting_task_rules (queue_at s (slot_in w.position)) (slot_in w.position) t w) ≡ true → Waiting s t w
unfolding waiting_task_rules
waiting-rules s t w r z e =
    let (h1, (h2, (h3, (h4, (h5, (h6, h7)))))) = holds _ e in
    let q : 1 ≤ w.position.queue = leb-true _ _ h1 in
    record {
      rules = r;
      state = z;
      slot = slot_in w.position;
      queue = nonzero w.position.queue q;
      slot_below = ltb-true _ _ h2;
      live = eqb-true _ _ h3;
      access = h4;
      status = eqb-true _ _ h5;
      message_length = eqb-true _ _ h6;
    }

ready-rules : (w : Task) → all_true (task_rules w) ≡ true → all_true (ready_task_rules w) ≡ true → Ready w
unfolding ready_task_rules
ready-rules w r e =
    let (h1, (h2, (h3, (h4, (h5, (h6, h7)))))) = holds _ e in
    record {
      rules = r;
      state = eqb-true _ _ h1;
      queue = eqb-true _ _ h2;
      rank = eqb-true _ _ h3;
      ticks_left = eqb-true _ _ h4;
      status = h5;
      message_length = leb-true _ _ h6;
    }

pub task-rules : (s : State) (t : ℕ) (w : Task) → sound_task s t w ≡ true → Ready w ⊎ Waiting s t w
unfolding sound_task
task-rules s t w e = let (r, f) = both _ _ e in go (is_waiting w) refl r f
  where
    go : (b : Bool) → is_waiting w ≡ b → all_true (task_rules w) ≡ true
        → (if b then all_true (waiting_task_rules (queue_at s (slot_in w.position)) (slot_in w.position) t w) else all_true (ready_task_rules w)) ≡ true
        → Ready w ⊎ Waiting s t w
    go true z r e = inr (waiting-rules s t w r (eqb-true _ _ z) e)
    go false z r e = inl (ready-rules w r e)

pub ready-sound : (s : State) (t : ℕ) (w : Task) → Ready w → sound_task s t w ≡ true
unfolding sound_task ready_task_rules
ready-sound s t w r =
    let ne : eqb w.state waiting_state ≡ false = ne_eqb _ _ (λ z. let z' : 0 ≡ 1 = sym r.state ∙ z in omega arith) in
    and r.rules
    (rw ne
    (held _ (
      eq-eqb _ _ r.state,
      (eq-eqb _ _ r.queue, (eq-eqb _ _ r.rank, (eq-eqb _ _ r.ticks_left, (r.status, (le-leb _ _ r.message_length, tt))))),
    )))

pub waiting-sound : (s : State) (t : ℕ) (w : Task) → Waiting s t w → sound_task s t w ≡ true
unfolding sound_task waiting_task_rules
waiting-sound s t w r =
    let e : slot_in w.position ≡ r.slot = ap pred r.queue in
    let one : leb 1 w.position.queue ≡ true = le-leb 1 w.position.queue (let z = r.queue in omega arith) in
    and r.rules
    (rw (eq-eqb _ _ r.state, e)
    (held _ (one, (lt-ltb _ _ r.slot_below, (eq-eqb _ _ r.live, (r.access, (eq-eqb _ _ r.status, (eq-eqb _ _ r.message_length, tt))))))))

-- ---- The queue that a record is in

-- the position is in the queue of a live slot
pub record InLive (s : State) (p : Position) : Type 0 where
  pub slot : ℕ
  pub queue : p.queue ≡ suc slot
  pub slot_below : slot < slot_count
  pub live : (queue_at s slot).live ≡ 1

-- a record that is as its rules say is in no queue, or in that of a live slot
abbrev pub Owned : State → Position → Type 0
Owned s p = (p.queue ≡ 0) ⊎ InLive s p

pub buffer-owner : (s : State) (b : ℕ) (m : Buffer) → sound_buffer s b m ≡ true → Owned s m.position
buffer-owner s b m e =
    ⊎_elim (λ u. inl u.queue) (λ u. inr (record { slot = u.slot; queue = u.queue; slot_below = u.slot_below; live = u.live })) (buffer-rules s b m e)

pub task-owner : (s : State) (t : ℕ) (w : Task) → sound_task s t w ≡ true → Owned s w.position
task-owner s t w e =
    ⊎_elim (λ r. inl r.queue) (λ v. inr (record { slot = v.slot; queue = v.queue; slot_below = v.slot_below; live = v.live })) (task-rules s t w e)
