-- Bytes and records correspond: byte tables decode into fields in range, fields in range encode into byte tables, and sound tables that fit
-- their bytes have all fields in range. Assumes nothing.
use Prim.Native.Nat.{ℕ, ◌*◌, ◌≤◌, ◌<◌}
use native.Mathlib.Omega.{arith}
use mathlib.Core.Path.{◌≡◌, refl, sym, ◌∙◌, subst}
use mathlib.Core.Bool.{Bool, true, false, ◌||◌}
use mathlib.Core.Logic.{◌⊎◌, inr, ⊎_elim}
use mathlib.Core.List.{List, [], ◌∷◌}
use lib.Dec.{eqb}
use lib.ListN.{length, length-map}
use borrow.Author.Tests.{eqb-true}
use Rattle.ranks.specs.Lists.{all_zero}
use Rattle.ranks.specs.Table.{records}
use Rattle.octets.specs.LittleEndian.{byte_values}
use Rattle.records.specs.Layout.{largest_limit, slot_count, queue_width, buffer_count, buffer_width, task_count, task_width, capacity}
use Rattle.records.specs.Records.{State, queue_at, buffer_at, task_at}
use Rattle.records.specs.Bytes.{Tables, decode_queue, decode_buffer, decode_task, decode, encode}
use Rattle.records.specs.InRange.{AllBytes, ByteTables, ByteList, QueueInRange, BufferInRange, TaskInRange, FieldsInRange}
use Rattle.records.specs.Status.{SUCCESSFUL, TIMEOUT, OBJECT-WAS-DELETED}
use Rattle.specification.specs.Sound.{task_rules}
use Rattle.ranks.proofs.Lists.{holds}
use Rattle.ranks.proofs.Tests.{or}
use Rattle.ranks.proofs.Table.{length-records}
use Rattle.ranks.proofs.ByRank.{held-bound}
use Rattle.records.proofs.Access.{queue-at, buffer-at, task-at}
use Rattle.records.proofs.ByteLists.{bytes-cons, bytes-nil, bytes-queues, bytes-pool, bytes-tasks}
use Rattle.records.proofs.EncodeDecode.{lengths, length-slice, bytes-slice}
use Rattle.records.proofs.Fits.{queue-decoded, buffer-decoded, task-decoded, queue-encodable}
use Rattle.specification.proofs.Rules.{size-at-most, Live, Free, Unused, Used, Ready, Waiting, queue-rules, buffer-rules, task-rules}
use Rattle.specification.proofs.SoundFacts.{Sized, SoundFacts, tasks-ranked}
use Rattle.theorems.proofs.Encodable.{Data, Encodable}
use Rattle.theorems.proofs.KeptQueues.{live_of}
use Rattle.theorems.proofs.OnBytes.{encode-lengths}
use Rattle.theorems.proofs.SoundSubmit.{own-rules}

-- ---- Decoded

pub decoded-sized : (t : Tables) → Sized (decode t)
unfolding decode
decoded-sized t =
    record {
      queues = length-map (records slot_count queue_width t.queues) decode_queue ∙ length-records slot_count queue_width t.queues;
      pool = length-map (records buffer_count buffer_width t.pool) decode_buffer ∙ length-records buffer_count buffer_width t.pool;
      tasks = length-map (records task_count task_width t.tasks) decode_task ∙ length-records task_count task_width t.tasks;
    }

pub decoded : (t : Tables) → ByteTables t → FieldsInRange (decode t)
decoded t b =
    let (lq, lp, lt) = lengths t b.lengths in
    let z = decoded-sized t in
    record {
      queues_length = z.queues;
      pool_length = z.pool;
      tasks_length = z.tasks;
      queues =
          λ i h.
          subst QueueInRange (sym (queue-at t i h))
          (queue-decoded _ (length-slice t.queues (i * queue_width) queue_width (omega arith)) (bytes-slice t.queues b.queues (i * queue_width) queue_width));
      pool =
          λ i h.
          subst BufferInRange (sym (buffer-at t i h))
          (buffer-decoded _ (length-slice t.pool (i * buffer_width) buffer_width (omega arith)) (bytes-slice t.pool b.pool (i * buffer_width) buffer_width));
      tasks =
          λ i h.
          subst TaskInRange (sym (task-at t i h))
          (task-decoded _ (length-slice t.tasks (i * task_width) task_width (omega arith)) (bytes-slice t.tasks b.tasks (i * task_width) task_width));
    }

-- ---- Encoded

pub in-range-sized : {s : State} → FieldsInRange s → Sized s
in-range-sized r = record { queues = r.queues_length; pool = r.pool_length; tasks = r.tasks_length }

data_of : {l : List ℕ} → ByteList capacity l → Data l
data_of b = record { long = b.count; each = b.each }

pub in-range-fits : {s : State} → FieldsInRange s → Encodable s
in-range-fits r =
    record {
      queues = λ i h. queue-encodable (r.queues i h);
      pool = λ b h. let m = r.pool b h in record { reserved = m.reserved.count; bytes = data_of m.bytes };
      tasks =
          λ t h.
          let w = r.tasks t h in
          record {
            priority = w.priority;
            reserved = w.reserved.count;
            ticks_left = w.ticks_left;
            reserved_after = w.reserved_after.count;
            receive_buffer = data_of w.receive_buffer;
          };
    }

pub encoded-bytes : (s : State) → FieldsInRange s → ByteTables (encode s)
encoded-bytes s r =
    record {
      lengths = encode-lengths s (in-range-sized r) (in-range-fits r);
      queues = bytes-queues s r;
      pool = bytes-pool s r;
      tasks = bytes-tasks s r;
    }

-- ---- Sound tables whose records fit their bytes

bytes_of : {l : List ℕ} → Data l → ByteList capacity l
bytes_of d = record { count = d.long; each = d.each }

zeros-are-bytes : (l : List ℕ) → all_zero l ≡ true → AllBytes l
unfolding all_zero
zeros-are-bytes [] e = bytes-nil
zeros-are-bytes (n ∷ l) e = go (eqb n 0) refl e (zeros-are-bytes l)
  where
    go : (b : Bool) → eqb n 0 ≡ b → (elim b [ true ↦ all_zero l | false ↦ false ]) ≡ true → (all_zero l ≡ true → AllBytes l) → AllBytes (n ∷ l)
    go true p e ih = bytes-cons (let z : n ≡ 0 = eqb-true _ _ p in omega arith) (ih e)
    go false p e ih = absurd (mathlib.Core.Bool.false≢true e)

zeros : {n : ℕ} {l : List ℕ} → length l ≡ n → all_zero l ≡ true → ByteList n l
zeros {l = l} e z = record { count = e; each = zeros-are-bytes l z }

module _ (s : State) (g : SoundFacts s) where
  -- all tasks may wait on one queue, and no more
  pub waiters-bound : (i : ℕ) → i < slot_count → (queue_at s i).waiters ≤ task_count
  waiters-bound i h = held-bound (tasks-ranked s g i h)

  pub pending-bound : (i : ℕ) → i < slot_count → (queue_at s i).pending ≤ largest_limit
  pending-bound i h =
      ⊎_elim (λ l. let a = l.pending in let b = l.limit-high in omega arith) (λ f. let e = f.pending in omega arith) (queue-rules _ (g.queue i h))

  module _ (f : Encodable s) where
    queue-in-range : (i : ℕ) → i < slot_count → QueueInRange (queue_at s i)
    queue-in-range i h =
        record {
          live = ⊎_elim (λ l. let e = l.live in omega arith) (λ z. let e = z.live in omega arith) kind;
          attributes = ⊎_elim (λ l. let e = l.attributes in omega arith) (λ z. let e = z.attributes in omega arith) kind;
          limit = ⊎_elim (λ l. let e = l.limit-high in omega arith) (λ z. let e = z.limit in omega arith) kind;
          max_size = ⊎_elim (λ l. let e = l.size-high in omega arith) (λ z. let e = z.max_size in omega arith) kind;
          generation = (f.queues i h).generation;
          pending = let e = pending-bound i h in omega arith;
          waiters = let e = waiters-bound i h in omega arith;
          name = (f.queues i h).name;
          reserved = zeros (f.queues i h).reserved (⊎_elim (λ l. l.reserved) (λ z. z.reserved) kind);
        }
      where
        kind : Live (queue_at s i) ⊎ Free (queue_at s i)
        kind = queue-rules _ (g.queue i h)

    buffer-in-range : (b : ℕ) → b < buffer_count → BufferInRange (buffer_at s b)
    buffer-in-range b h =
        record {
          queue = ⊎_elim (λ x. let e = x.queue in omega arith) (λ u. let e = u.queue in let k = u.slot_below in omega arith) kind;
          rank =
              ⊎_elim (λ x. let e = x.rank in omega arith)
              (λ u. let r = (g.messages u.slot u.slot_below).below b h u.queue in let k = pending-bound u.slot u.slot_below in omega arith) kind;
          message_length =
              ⊎_elim (λ x. let e = x.message_length in omega arith)
              (λ u.
              let e = size-at-most _ _ u.size in
              let k = (live_of _ (g.queue u.slot u.slot_below) (inr (inr u.live))).size-high in
              omega arith) kind;
          reserved = zeros (f.pool b h).reserved (⊎_elim (λ x. x.reserved) (λ u. u.reserved) kind);
          bytes = bytes_of (f.pool b h).bytes;
        }
      where
        kind : Unused (buffer_at s b) ⊎ Used s b (buffer_at s b)
        kind = buffer-rules s b _ (g.buffer b h)

    task-in-range : (t : ℕ) → t < task_count → TaskInRange (task_at s t)
    unfolding task_rules
    task-in-range t h =
        record {
          state = ⊎_elim (λ r. let e = r.state in omega arith) (λ w. let e = w.state in omega arith) kind;
          queue = ⊎_elim (λ r. let e = r.queue in omega arith) (λ w. let e = w.queue in let k = w.slot_below in omega arith) kind;
          rank =
              ⊎_elim (λ r. let e = r.rank in omega arith)
              (λ w. let k = (g.waiters w.slot w.slot_below).below t h w.queue in let b = waiters-bound w.slot w.slot_below in omega arith) kind;
          priority = (f.tasks t h).priority;
          status = ⊎_elim (λ r. small r.status) (λ w. let e = w.status in omega arith) kind;
          message_length = ⊎_elim (λ r. let e = r.message_length in omega arith) (λ w. let e = w.message_length in omega arith) kind;
          reserved = zeros (f.tasks t h).reserved (holds _ (own-rules s g t h)).1.0;
          ticks_left = (f.tasks t h).ticks_left;
          reserved_after = zeros (f.tasks t h).reserved_after (holds _ (own-rules s g t h)).1.1.0;
          receive_buffer = bytes_of (f.tasks t h).receive_buffer;
        }
      where
        kind : Ready (task_at s t) ⊎ Waiting s t (task_at s t)
        kind = task-rules s t _ (g.task t h)

        small : (eqb (task_at s t).status SUCCESSFUL || eqb (task_at s t).status TIMEOUT || eqb (task_at s t).status OBJECT-WAS-DELETED) ≡ true
            → (task_at s t).status < byte_values
        small e = ⊎_elim
            (λ x. ⊎_elim (λ y. let z : (task_at s t).status ≡ SUCCESSFUL = eqb-true _ _ y in omega arith) (λ y. let z : (task_at s t).status ≡ TIMEOUT = eqb-true _ _ y in omega arith)
            (or (eqb (task_at s t).status SUCCESSFUL) _ x))
            (λ x. let z : (task_at s t).status ≡ OBJECT-WAS-DELETED = eqb-true _ _ x in omega arith)
            (or (eqb (task_at s t).status SUCCESSFUL || eqb (task_at s t).status TIMEOUT) _ e)

    pub sound-in-range : FieldsInRange s
    sound-in-range =
        record {
          queues_length = g.sized.queues;
          pool_length = g.sized.pool;
          tasks_length = g.sized.tasks;
          queues = queue-in-range;
          pool = buffer-in-range;
          tasks = task-in-range;
        }
