-- Every call and tick leaves records that fit the bytes they are written in. Assumes nothing.
use Prim.Native.Nat.{ℕ, ◌≤◌, ◌<◌}
use native.Mathlib.Omega.{arith}
use mathlib.Core.Path.{◌≡◌, refl, sym, ap, ◌∙◌, subst}
use mathlib.Core.Bool.{Bool, true, false}
use mathlib.Core.List.{List, [], ◌∷◌, map}
use lib.Dec.{eqb, ltb}
use lib.ListN.{length, get_or, take, drop, replicate, length-append, length-drop, length-take}
use borrow.Author.Tests.{ltb-true}
use Rattle.std.specs.Prelude.{if◌then◌else◌}
use Rattle.ranks.specs.Lists.{map_with_index, all_true, numbers_from}
use Rattle.ranks.specs.Position.{Position, in_queue}
use Rattle.records.specs.Split.{share_of_task}
use Rattle.octets.specs.LittleEndian.{byte_values}
use Rattle.records.specs.Layout.{slot_of, capacity, slot_count, buffer_count, task_count, last_generation}
use Rattle.records.specs.Records.{Queue, Buffer, Task, State, queue_at, buffer_at, task_at, free_queue, free_buffer, fresh_task}
use Rattle.records.specs.Changes.{at_index, overwrite_front, move_buffer, message_buffer, move_task, ready_with, with_message}
use Rattle.records.specs.InRange.{AllBytes}
use Rattle.records.specs.Status.{TIMEOUT}
use Rattle.specification.specs.Answer.{Outcome}
use Rattle.specification.specs.Call.{Operation, Call, delete, send, urgent, broadcast, receive, get_number_pending, flush, create, ident, on_queue, call, tick, operation_in_range, directive_in_range, arguments_in_range}
use Rattle.specification.specs.Lookup.{usable, first_waiter, has_waiter, first_message, has_message, leave, without_waiters, without_messages}
use Rattle.specification.specs.Tick.{expires, is_timed, tick_task, tick_tasks}
use Rattle.specification.specs.Step.{directive_refusals, operation_refusals, operation_effect, effect}
use Rattle.ranks.proofs.Lists.{at-mapped, holds}
use Rattle.ranks.proofs.Tests.{both}
use Rattle.records.proofs.DecodeEncode.{QueueEncodable}
use Rattle.records.proofs.Fits.{counts-fit, free-queue-fits, live-queue-fits}
use Rattle.records.proofs.ByteLists.{bytes-append, bytes_take, bytes_drop, bytes-zeros, bytes-tested}
use Rattle.specification.proofs.OnRecords.{call_on_records}
use Rattle.specification.proofs.Refused.{None, refused-or}
use Rattle.specification.proofs.SoundFacts.{Sized, SoundFacts}
use Rattle.theorems.proofs.KeptQueues.{at_both}
use Rattle.specification.proofs.Accepted.{Accepted, accepted-facts, creatable, on-queue, broadcast-size}
use Rattle.theorems.proofs.SoundCreate.{slot-found}
use Rattle.theorems.proofs.SoundSubmit.{slot-below, usable-live, submitted, short}
use Rattle.theorems.proofs.SoundTick.{Below, below-range, tick_task-sound}
use Rattle.theorems.proofs.SoundCleared.{broadcast-short}
use Rattle.specification.specs.Create
use Rattle.specification.specs.Ident
use Rattle.specification.specs.Delete
use Rattle.specification.specs.Submit
use Rattle.specification.specs.Broadcast
use Rattle.specification.specs.Receive
use Rattle.specification.specs.GetNumberPending
use Rattle.specification.specs.Flush
use Rattle.specification.specs.Tick

-- a list of 120 bytes
pub record Data (bytes : List ℕ) : Type 0 where
  pub long : length bytes ≡ capacity
  pub each : AllBytes bytes

pub record BufferFits (m : Buffer) : Type 0 where
  pub reserved : length m.reserved ≡ 5
  pub bytes : Data m.bytes

pub record TaskFits (w : Task) : Type 0 where
  pub priority : w.priority < byte_values
  pub reserved : length w.reserved ≡ 2
  pub ticks_left : w.ticks_left < 4294967296
  pub reserved_after : length w.reserved_after ≡ 4
  pub receive_buffer : Data w.receive_buffer

pub record Encodable (s : State) : Type 0 where
  pub queues : (i : ℕ) → i < slot_count → QueueEncodable (queue_at s i)
  pub pool : (b : ℕ) → b < buffer_count → BufferFits (buffer_at s b)
  pub tasks : (t : ℕ) → t < task_count → TaskFits (task_at s t)

-- ---- One record changed

-- a message that fits a buffer
pub record Message (message : List ℕ) : Type 0 where
  pub short : length message ≤ capacity
  pub each : AllBytes message

overwritten : {message bytes : List ℕ} → Message message → Data bytes → Data (overwrite_front message bytes)
overwritten {message} {bytes} m d =
    record {
      long = omega (arith, length-append message (drop (length message) bytes), length-drop (length message) bytes, m.short, d.long);
      each = bytes-append m.each (bytes_drop (length message) d.each);
    }

zeroed : Data (replicate capacity 0)
zeroed = record { long = refl; each = bytes-zeros capacity }

free-fits : BufferFits free_buffer
free-fits = record { reserved = refl; bytes = zeroed }

message_buffer-fits : (p : Position) {message : List ℕ} → Message message → BufferFits (message_buffer p message)
message_buffer-fits p m = record { reserved = refl; bytes = overwritten m zeroed }

move_buffer-fits : (p : Position) {m : Buffer} → BufferFits m → BufferFits (move_buffer p m)
move_buffer-fits p f = record { reserved = f.reserved; bytes = f.bytes }

-- a task with other fields of its wait and of what it received
task-fits : {w w' : Task} → TaskFits w → w'.priority ≡ w.priority → w'.reserved ≡ w.reserved → w'.ticks_left < 4294967296
    → w'.reserved_after ≡ w.reserved_after → Data w'.receive_buffer → TaskFits w'
task-fits f p r t a d =
    record {
      priority = subst (λ (n : ℕ). n < byte_values) (sym p) f.priority;
      reserved = ap length r ∙ f.reserved;
      ticks_left = t;
      reserved_after = ap length a ∙ f.reserved_after;
      receive_buffer = d;
    }

with_message-fits : {message : List ℕ} → Message message → {w : Task} → TaskFits w → TaskFits (with_message message w)
with_message-fits m f = task-fits f refl refl (omega arith) refl (overwritten m f.receive_buffer)

ready_with-fits : (n : ℕ) {w : Task} → TaskFits w → TaskFits (ready_with n w)
ready_with-fits n f = task-fits f refl refl (omega arith) refl f.receive_buffer

move_task-fits : (p : Position) {w : Task} → TaskFits w → TaskFits (move_task p w)
move_task-fits p f = task-fits f refl refl f.ticks_left refl f.receive_buffer

either-fits : {A : Type 0} (P : A → Type 0) (b : Bool) {x y : A} → P x → P y → P (if b then x else y)
either-fits P true h k = h
either-fits P false h k = k

-- ---- The tables changed record by record

module _ {A : Type 0} (P : A → Type 0) (d : A) (N : ℕ) (l : List A) (len : length l ≡ N) (fits : (i : ℕ) → i < N → P (get_or l i d)) where
  all_fit : (F : ℕ → A → A) → ((i : ℕ) (a : A) → P a → P (F i a)) → (i : ℕ) → i < N → P (get_or (map_with_index F l) i d)
  all_fit F h i lt = subst P (sym (at-mapped F l i d d (omega arith))) (h i _ (fits i lt))

  pub one-fits : (k : ℕ) (f : A → A) → (k < N → P (get_or l k d) → P (f (get_or l k d))) → (i : ℕ) → i < N → P (get_or (map_with_index (at_index k f) l) i d)
  one-fits k f h i lt =
      subst P (sym (at-mapped (at_index k f) l i d d (omega arith)))
      (at_both (λ _ a. P a) k f i (get_or l i d)
      (λ e. subst (λ (j : ℕ). P (f (get_or l j d))) (sym e) (h (omega arith) (fits k (omega arith)))) (λ _. fits i lt))

module _ (s : State) (z : Sized s) (f : Encodable s) where
  queues-fit : (slot : ℕ) (F : Queue → Queue) → (slot < slot_count → QueueEncodable (queue_at s slot) → QueueEncodable (F (queue_at s slot)))
      → (i : ℕ) → i < slot_count → QueueEncodable (get_or (map_with_index (at_index slot F) s.queues) i (free_queue 0))
  queues-fit = one-fits QueueEncodable (free_queue 0) slot_count s.queues z.queues f.queues

  pool-fits : (F : ℕ → Buffer → Buffer) → ((b : ℕ) (m : Buffer) → BufferFits m → BufferFits (F b m))
      → (b : ℕ) → b < buffer_count → BufferFits (get_or (map_with_index F s.pool) b free_buffer)
  pool-fits = all_fit BufferFits free_buffer buffer_count s.pool z.pool f.pool

  tasks-fit : (F : ℕ → Task → Task) → ((t : ℕ) (w : Task) → TaskFits w → TaskFits (F t w))
      → (t : ℕ) → t < task_count → TaskFits (get_or (map_with_index F s.tasks) t (fresh_task 1))
  tasks-fit = all_fit TaskFits (fresh_task 1) task_count s.tasks z.tasks f.tasks

  -- ---- The effects

  leave_fits : (t slot rank : ℕ) (g : Task → Task) → ((w : Task) → TaskFits w → TaskFits (g w)) → Encodable (leave s t slot rank g)
  unfolding leave
  leave_fits t slot rank g h =
      record {
        queues = queues-fit slot _ (λ _ k. counts-fit _ _ k);
        pool = f.pool;
        tasks = tasks-fit _ (λ j w k. either-fits TaskFits (eqb j t) (h w k) (move_task-fits _ k));
      }

  submit-fits : (slot rank : ℕ) (message : List ℕ) → Message message → Encodable (Submit.effect s slot rank message).after
  unfolding Submit.effect Submit.delivered Submit.enqueued
  submit-fits slot rank message m =
      either-fits (λ (o : Outcome State). Encodable o.after) (has_waiter s slot)
      (leave_fits (first_waiter s slot) slot 0 (with_message message) (λ w k. with_message-fits m k))
      (record {
        queues = queues-fit slot _ (λ _ k. counts-fit _ _ k);
        pool = pool-fits _ (λ j b k. either-fits BufferFits (eqb j _) (message_buffer-fits _ m) (move_buffer-fits _ k));
        tasks = f.tasks;
      })

  broadcast-fits : (slot : ℕ) (message : List ℕ) → Message message → Encodable (Broadcast.effect s slot message).after
  unfolding Broadcast.effect without_waiters
  broadcast-fits slot message m =
      record {
        queues = queues-fit slot _ (λ _ k. counts-fit _ _ k);
        pool = f.pool;
        tasks = tasks-fit _ (λ j w k. either-fits TaskFits (in_queue slot w.position) (with_message-fits m k) k);
      }

  delete-fits : (slot : ℕ) → Encodable (Delete.effect s slot).after
  unfolding Delete.effect without_waiters without_messages
  delete-fits slot =
      record {
        queues = queues-fit slot _ (λ _ k. free-queue-fits _ k.generation);
        pool = pool-fits _ (λ j m k. either-fits BufferFits (in_queue slot m.position) free-fits k);
        tasks = tasks-fit _ (λ j w k. either-fits TaskFits (in_queue slot w.position) (ready_with-fits 8 k) k);
      }

  flush-fits : (slot : ℕ) → Encodable (Flush.effect s slot).after
  unfolding Flush.effect without_messages
  flush-fits slot =
      record {
        queues = queues-fit slot _ (λ _ k. counts-fit _ _ k);
        pool = pool-fits _ (λ j m k. either-fits BufferFits (in_queue slot m.position) free-fits k);
        tasks = f.tasks;
      }

  create-fits : (slot name limit max_size attributes : ℕ) → (queue_at s slot).generation < last_generation → name < 4294967296
      → Encodable (Create.effect s slot name limit max_size attributes).after
  unfolding Create.effect
  create-fits slot name limit max_size attributes h n =
      record {
        queues = queues-fit slot _ (λ _ k. live-queue-fits _ name limit max_size attributes (queue_at s slot) (omega arith) n);
        pool = f.pool;
        tasks = f.tasks;
      }

  receive-fits : (caller slot ticks : ℕ) → ticks < 4294967296 → Encodable (Receive.effect s caller slot ticks).after
  unfolding Receive.effect Receive.received Receive.waiting
  receive-fits caller slot ticks h = go (has_message s slot) refl
    where
      b : ℕ
      b = first_message s slot

      message : b < buffer_count → Message (take (buffer_at s b).message_length (buffer_at s b).bytes)
      message lt =
          let d = (f.pool b lt).bytes in
          record {
            short = omega (arith, length-take (buffer_at s b).message_length (buffer_at s b).bytes, d.long);
            each = bytes_take (buffer_at s b).message_length d.each;
          }

      go : (t : Bool) → has_message s slot ≡ t
          → Encodable (if t then Receive.received s caller slot b else Receive.waiting s caller slot (Receive.wait_rank s caller slot) ticks).after
      go true e =
          record {
            queues = queues-fit slot _ (λ _ k. counts-fit _ _ k);
            pool = pool-fits _ (λ j m k. either-fits BufferFits (eqb j b) free-fits (move_buffer-fits _ k));
            tasks = tasks-fit _ (λ j w k. either-fits TaskFits (eqb j caller) (with_message-fits (message (ltb-true _ _ e)) k) k);
          }
      go false e =
          record {
            queues = queues-fit slot _ (λ _ k. counts-fit _ _ k);
            pool = f.pool;
            tasks =
                tasks-fit _
                (λ j w k. either-fits TaskFits (eqb j caller) (task-fits k refl refl h refl k.receive_buffer) (move_task-fits _ k));
          }

  tick_task-fits : (t : ℕ) → t < task_count → Encodable (tick_task s t)
  unfolding tick_task
  tick_task-fits t lt =
      either-fits Encodable (expires (task_at s t)) (leave_fits t _ _ (ready_with TIMEOUT) (λ w k. ready_with-fits TIMEOUT k))
      (either-fits Encodable (is_timed (task_at s t))
      (record {
        queues = f.queues;
        pool = f.pool;
        tasks =
            tasks-fit _
            (λ j w k. either-fits TaskFits (eqb j t)
            (task-fits k refl refl (let e = (f.tasks t lt).ticks_left in omega arith) refl k.receive_buffer) k);
      }) f)

tick_tasks-fit : (s : State) (ts : List ℕ) → SoundFacts s → Encodable s → Below task_count ts → Encodable (tick_tasks s ts)
unfolding tick_tasks
tick_tasks-fit s [] g f b = f
tick_tasks-fit s (t ∷ ts) g f b = tick_tasks-fit (tick_task s t) ts (tick_task-sound s g t b.0) (tick_task-fits s g.sized f t b.0) b.1

-- ---- The calls

module _ (s : State) (g : SoundFacts s) (f : Encodable s) where
  abbrev z : Sized s
  z = g.sized

  sent : (caller id rank : ℕ) (message : List ℕ) → usable s caller id ≡ true → all_true (map (λ b. ltb b byte_values) message) ≡ true
      → None (Submit.refusals s (slot_of id) message) → Message message
  sent caller id rank message u e n =
      record {
        short = short s g (slot_of id) 0 message (slot-below id) (usable-live s caller id u) (submitted s (slot_of id) message n) (omega arith);
        each = bytes-tested message e;
      }

  operation-fits : (caller id : ℕ) (o : Operation) → usable s caller id ≡ true → operation_in_range o ≡ true
      → None (operation_refusals s caller (slot_of id) o) → Encodable (operation_effect s caller (slot_of id) o).after
  unfolding operation_refusals operation_effect operation_in_range GetNumberPending.effect
  operation-fits caller id delete u e n = delete-fits s z f (slot_of id)
  operation-fits caller id (send message) u e n = submit-fits s z f (slot_of id) _ message (sent caller id 0 message u e n)
  operation-fits caller id (urgent message) u e n = submit-fits s z f (slot_of id) _ message (sent caller id 0 message u e n)
  operation-fits caller id (broadcast message) u e n =
      broadcast-fits s z f (slot_of id) message
      (record {
        short = broadcast-short s g (slot_of id) (slot-below id) message (usable-live s caller id u) (broadcast-size s (slot_of id) message n);
        each = bytes-tested message e;
      })
  operation-fits caller id (receive option ticks) u e n = receive-fits s z f caller (slot_of id) ticks (ltb-true _ _ (holds _ e).1.0)
  operation-fits caller id get_number_pending u e n = f
  operation-fits caller id flush u e n = flush-fits s z f (slot_of id)

  pub effect-fits : (c : Call) → Accepted s c → arguments_in_range c ≡ true → Encodable (effect s c).after
  unfolding effect directive_refusals Accepted arguments_in_range directive_in_range Ident.effect Tick.effect
  effect-fits (call caller (create name limit max_size attributes)) a e =
      create-fits s z f _ name limit max_size attributes (slot-found s z (share_of_task caller) (creatable s (share_of_task caller) name limit max_size attributes a.directive).slot_below).2
      (ltb-true _ _ (holds _ (both (ltb caller 4294967296) _ e).1).0)
  effect-fits (call caller (ident name share)) a e = f
  effect-fits (call caller (on_queue id o)) a e =
      let q = on-queue s caller id o a.directive in
      operation-fits caller id o q.is_usable (both (ltb id 4294967296) _ (both (ltb caller 4294967296) _ e).1).1 q.operation
  effect-fits tick a e = tick_tasks-fit s (numbers_from 0 task_count) g f (below-range task_count 0 task_count (omega arith))

  pub call_fits : (c : Call) → arguments_in_range c ≡ true → Encodable (call_on_records s c).after
  unfolding call_on_records
  call_fits c e = refused-or (λ o. Encodable o.after) s _ _ (λ n. f) (λ n. effect-fits c (accepted-facts s c n) e)
