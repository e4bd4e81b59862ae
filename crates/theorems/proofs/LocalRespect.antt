-- Another share's call leaves a confined share's records alone and wakes none of its tasks. Assumes nothing.
use Prim.Native.Nat.{ℕ, suc, ◌<◌}
use mathlib.Core.Path.{◌≡◌, refl, sym, ap, ◌∙◌}
use mathlib.Core.Bool.{Bool, true, false, ◌&&◌, true≢false}
use mathlib.Core.Logic.{⊎_elim}
use mathlib.Core.List.{List}
use lib.Dec.{eqb, ltb}
use borrow.Author.Tests.{eqb-true, eq-eqb, ne_eqb, ltb-true, lt-ltb}
use Rattle.std.specs.Prelude.{if◌then◌else◌}
use Rattle.ranks.specs.Lists.{map_with_index, bit, mask}
use Rattle.ranks.specs.Position.{Position, in_queue}
use Rattle.records.specs.Layout.{slot_of, task_count, slot_count, buffer_count}
use Rattle.records.specs.Split.{share_of_slot, share_of_buffer, share_of_task}
use Rattle.records.specs.Records.{Queue, Buffer, Task, State, free_queue, free_buffer, fresh_task}
use Rattle.records.specs.Changes.{at_index, move_task, move_buffer, with_message}
use Rattle.specification.specs.Call.{Operation, Call, delete, send, urgent, broadcast, receive, get_number_pending, flush, create, ident, on_queue, call, tick}
use Rattle.specification.specs.Lookup.{usable, first_waiter, has_waiter, first_message, has_message, waiters_of, leave, without_waiters, without_messages}
use Rattle.specification.specs.Submit.{free_buffer_of, delivered, enqueued}
use Rattle.specification.specs.Receive.{received, wait_rank, waiting}
use Rattle.specification.specs.Step.{operation_refusals, directive_refusals, operation_effect, effect}
use Rattle.theorems.specs.Noninterference.{is_call_of, is_tick}
use Rattle.ranks.proofs.Ranks.{out_stays, in-stays}
use Rattle.ranks.proofs.Tests.{and, or}
use Rattle.specification.proofs.Accepted.{Accepted, accepted-facts, creatable, on-queue}
use Rattle.specification.proofs.SoundFacts.{Sized}
use Rattle.specification.proofs.OnRecords.{call_on_records}
use Rattle.specification.proofs.Refused.{None, refused-or}
use Rattle.theorems.proofs.KeptQueues.{at_other}
use Rattle.theorems.proofs.SoundCreate.{slot-found}
use Rattle.theorems.proofs.SoundReceive.{first_holds}
use Rattle.theorems.proofs.SoundSubmit.{slot-below, first-waits, free-found, submitted}
use Rattle.theorems.proofs.SoundWait.{usable-may}
use Rattle.theorems.proofs.Equivalent.{SameAt, still-mapped, still-in, Equivalent, equivalent-refl, Confined, not-open, tasks-in-own, pool-in-own, Respected, wakes-nobody, mask-of-none}
use Rattle.specification.specs.Create
use Rattle.specification.specs.Ident
use Rattle.specification.specs.Delete
use Rattle.specification.specs.Submit
use Rattle.specification.specs.Broadcast
use Rattle.specification.specs.Receive
use Rattle.specification.specs.GetNumberPending
use Rattle.specification.specs.Flush

-- a record of share x is not record i, which is of another share
other-record : (share : ℕ → ℕ) {x : ℕ} (i : ℕ) → (share i ≡ x → ⊥) → (j : ℕ) → share j ≡ x → j ≡ i → ⊥
other-record share i n j o q = n (sym (ap share q) ∙ o)

-- a task that makes a call that is not x's is of another share
not_own : (x caller : ℕ) → caller < task_count → ltb caller task_count && eqb (share_of_task caller) x ≡ false → share_of_task caller ≡ x → ⊥
not_own x caller h e o = true≢false (sym (and {a = ltb caller task_count} (lt-ltb _ _ h) (eq-eqb _ _ o)) ∙ e)

module _ {x : ℕ} {s : State} (p : Confined x s) where
  z : Sized s
  z = p.facts.sized

  -- ---- A queue of another share

  module _ (slot : ℕ) (other : share_of_slot slot ≡ x → ⊥) where
    -- a change of this queue
    queues-still : (f : Queue → Queue) → SameAt share_of_slot x slot_count (free_queue 0) s.queues (map_with_index (at_index slot f) s.queues)
    queues-still f = still-mapped share_of_slot x slot_count (free_queue 0) _ s.queues z.queues (λ i h o. at_other slot f i _ (other-record share_of_slot slot other i o))

    -- a change of the buffers, or of the tasks, that are in it or of another share
    pool-still : (F : ℕ → Buffer → Buffer) → ((b : ℕ) (m : Buffer) → share_of_buffer b ≡ x → (m.position.queue ≡ suc slot → ⊥) → F b m ≡ m)
        → SameAt share_of_buffer x buffer_count free_buffer s.pool (map_with_index F s.pool)
    pool-still F off = still-in share_of_buffer (λ m. m.position) x buffer_count free_buffer slot other F s.pool z.pool (pool-in-own p) off

    tasks-still : (F : ℕ → Task → Task) → ((t : ℕ) (w : Task) → share_of_task t ≡ x → (w.position.queue ≡ suc slot → ⊥) → F t w ≡ w)
        → SameAt share_of_task x task_count (fresh_task 1) s.tasks (map_with_index F s.tasks)
    tasks-still F off = still-in share_of_task (λ w. w.position) x task_count (fresh_task 1) slot other F s.tasks z.tasks (tasks-in-own p) off

    -- none of the share's tasks waits in it
    waiters-none : (t : ℕ) → t < task_count → share_of_task t ≡ x → bit t (mask (waiters_of slot s.tasks)) ≡ 0
    unfolding waiters_of
    waiters-none = mask-of-none x (λ t w. in_queue slot w.position) s z (λ t h o. ne_eqb _ _ (λ q. other (p.confined.home t h o slot q)))

    -- a task of another share leaves it
    pub leave-equivalent : (t rank : ℕ) (f : Task → Task) → (share_of_task t ≡ x → ⊥) → Equivalent x s (leave s t slot rank f)
    unfolding leave
    leave-equivalent t rank f n =
        record {
          queues = queues-still _;
          pool = λ i h o. refl;
          tasks =
              tasks-still _
              (λ j w o k.
              let ne = other-record share_of_task t n j o in
              rw (ne_eqb j t ne) (ap (λ (q : Position). move_task q w) (out_stays t slot rank j w.position ne k)));
        }

    delete-respects : Respected x s (Delete.effect s slot)
    unfolding Delete.effect without_waiters without_messages
    delete-respects =
        record {
          after =
              record {
                queues = queues-still _;
                pool = pool-still _ (λ b m o n. rw (ne_eqb _ _ n));
                tasks = tasks-still _ (λ t w o n. rw (ne_eqb _ _ n));
              };
          wakes-none = waiters-none;
        }

    delivered-respects : (t : ℕ) (message : List ℕ) → (share_of_task t ≡ x → ⊥) → Respected x s (delivered s t slot message)
    unfolding delivered
    delivered-respects t message n =
        record {
          after = leave-equivalent t 0 (with_message message) n;
          wakes-none = mask-of-none x (λ j w. eqb j t) s z (λ j h o. ne_eqb j t (other-record share_of_task t n j o));
        }

    enqueued-respects : (b rank : ℕ) (message : List ℕ) → (share_of_buffer b ≡ x → ⊥) → Respected x s (enqueued s b slot rank message)
    unfolding enqueued
    enqueued-respects b rank message n =
        wakes-nobody _ refl
        (record {
          queues = queues-still _;
          pool =
              pool-still _
              (λ j m o k.
              let ne = other-record share_of_buffer b n j o in
              rw (ne_eqb j b ne) (ap (λ (q : Position). move_buffer q m) (in-stays b slot rank j m.position ne k)));
          tasks = λ i h o. refl;
        })

    submit-respects : (rank : ℕ) (message : List ℕ) → None (Submit.refusals s slot message) → Respected x s (Submit.effect s slot rank message)
    unfolding Submit.effect
    submit-respects rank message n = go (has_waiter s slot) refl
      where
        go : (b : Bool) → has_waiter s slot ≡ b
            → Respected x s (if b then delivered s (first_waiter s slot) slot message else enqueued s (free_buffer_of s (share_of_slot slot)) slot rank message)
        go true k =
            let lt : first_waiter s slot < task_count = ltb-true _ _ k in
            delivered-respects (first_waiter s slot) message (λ o. other (p.confined.home _ lt o slot (first-waits s z slot lt).0))
        go false k =
            enqueued-respects (free_buffer_of s (share_of_slot slot)) rank message
            (λ o. other (sym (free-found s z (share_of_slot slot) ((submitted s slot message n).free k)).1 ∙ o))

    broadcast-respects : (message : List ℕ) → Respected x s (Broadcast.effect s slot message)
    unfolding Broadcast.effect without_waiters
    broadcast-respects message =
        record {
          after = record { queues = queues-still _; pool = λ i h o. refl; tasks = tasks-still _ (λ t w o n. rw (ne_eqb _ _ n)) };
          wakes-none = waiters-none;
        }

    flush-respects : Respected x s (Flush.effect s slot)
    unfolding Flush.effect without_messages
    flush-respects =
        wakes-nobody _ refl
        (record { queues = queues-still _; pool = pool-still _ (λ b m o n. rw (ne_eqb _ _ n)); tasks = λ i h o. refl })

    module _ (caller : ℕ) (not_own : share_of_task caller ≡ x → ⊥) where
      received-respects : (b : ℕ) → (share_of_buffer b ≡ x → ⊥) → Respected x s (received s caller slot b)
      unfolding received
      received-respects b n =
          wakes-nobody _ refl
          (record {
            queues = queues-still _;
            pool =
                pool-still _
                (λ j m o k.
                let ne = other-record share_of_buffer b n j o in
                rw (ne_eqb j b ne) (ap (λ (q : Position). move_buffer q m) (out_stays b slot 0 j m.position ne k)));
            tasks = tasks-still _ (λ t w o k. rw (ne_eqb t caller (other-record share_of_task caller not_own t o)));
          })

      waiting-respects : (rank ticks : ℕ) → Respected x s (waiting s caller slot rank ticks)
      unfolding waiting
      waiting-respects rank ticks =
          wakes-nobody _ refl
          (record {
            queues = queues-still _;
            pool = λ i h o. refl;
            tasks =
                tasks-still _
                (λ t w o k.
                let ne = other-record share_of_task caller not_own t o in
                rw (ne_eqb t caller ne) (ap (λ (q : Position). move_task q w) (in-stays caller slot rank t w.position ne k)));
          })

      receive-respects : (ticks : ℕ) → Respected x s (Receive.effect s caller slot ticks)
      unfolding Receive.effect
      receive-respects ticks = go (has_message s slot) refl
        where
          go : (b : Bool) → has_message s slot ≡ b
              → Respected x s (if b then received s caller slot (first_message s slot) else waiting s caller slot (wait_rank s caller slot) ticks)
          go true k =
              let lt : first_message s slot < buffer_count = ltb-true _ _ k in
              received-respects (first_message s slot) (λ o. other ((pool-in-own p).of-record _ slot lt (first_holds s z slot lt).0 o))
          go false k = waiting-respects _ ticks

      operation-respects : (o : Operation) → None (operation_refusals s caller slot o) → Respected x s (operation_effect s caller slot o)
      unfolding operation_refusals operation_effect GetNumberPending.effect
      operation-respects delete n = delete-respects
      operation-respects (send message) n = submit-respects _ message n
      operation-respects (urgent message) n = submit-respects _ message n
      operation-respects (broadcast message) n = broadcast-respects message
      operation-respects (receive option ticks) n = receive-respects ticks
      operation-respects get_number_pending n = wakes-nobody _ refl (equivalent-refl x s)
      operation-respects flush n = flush-respects

  -- ---- Another share's call

  -- a slot that a task of another share may use is not x's
  usable-other : (caller id : ℕ) → (share_of_task caller ≡ x → ⊥) → usable s caller id ≡ true → share_of_slot (slot_of id) ≡ x → ⊥
  usable-other caller id n u o = ⊎_elim (λ a. n (sym (eqb-true _ _ a) ∙ o)) (λ a. not-open p (slot_of id) (slot-below id) o a) (or _ _ (usable-may s caller id u))

  effect-respects : (c : Call) → is_call_of x c ≡ false → is_tick c ≡ false → Accepted s c → Respected x s (effect s c)
  unfolding effect is_call_of is_tick Accepted directive_refusals Create.effect Ident.effect
  effect-respects (call caller (create name limit max_size attributes)) o k a =
      let lt = (creatable s (share_of_task caller) name limit max_size attributes a.directive).slot_below in
      wakes-nobody _ refl
      (record {
        queues = queues-still _ (λ own. not_own x caller a.caller.below o (sym (slot-found s z (share_of_task caller) lt).1 ∙ own)) _;
        pool = λ i h o. refl;
        tasks = λ i h o. refl;
      })
  effect-respects (call caller (ident name share)) o k a = wakes-nobody _ refl (equivalent-refl x s)
  effect-respects (call caller (on_queue id operation)) o k a =
      let ne = not_own x caller a.caller.below o in
      let q = on-queue s caller id operation a.directive in
      operation-respects (slot_of id) (usable-other caller id ne q.is_usable) caller ne operation q.operation
  effect-respects tick o k a = absurd (true≢false k)

  pub other-respects : (c : Call) → is_call_of x c ≡ false → is_tick c ≡ false → Respected x s (call_on_records s c)
  unfolding call_on_records
  other-respects c o k =
      refused-or (λ r. Respected x s r) s _ _ (λ n. wakes-nobody _ refl (equivalent-refl x s)) (λ n. effect-respects c o k (accepted-facts s c n))
