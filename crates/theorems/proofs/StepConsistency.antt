-- A confined share's own call depends on its own records alone. Assumes nothing.
use Prim.Native.Nat.{ℕ, suc, ◌<◌}
use native.Mathlib.Omega.{arith}
use mathlib.Core.Path.{◌≡◌, refl, sym, ap, ◌∙◌, subst}
use mathlib.Core.Bool.{Bool, true, false, ◌&&◌, ◌||◌, true≢false, false≢true}
use mathlib.Core.List.{List, [], ◌∷◌}
use lib.Dec.{eqb, ltb}
use lib.ListN.{length}
use borrow.Author.Tests.{eqb-true, ne_eqb, ltb-true}
use Rattle.std.specs.Prelude.{if◌then◌else◌}
use Rattle.ranks.specs.Lists.{map_with_index, first_true, all_true, mask, count_true, sum_of, minimum}
use Rattle.ranks.specs.Position.{stands_at, in_queue}
use Rattle.records.specs.Layout.{slot_of, id_of, slot_count, buffer_count, task_count}
use Rattle.records.specs.Split.{share_of_slot, share_of_buffer, share_of_task}
use Rattle.records.specs.Records.{Queue, Buffer, Task, State, queue_at, task_at, free_queue, free_buffer, fresh_task, is_live, is_open, has_priority}
use Rattle.specification.specs.Sound.{limits}
use Rattle.specification.specs.Answer.{outcome}
use Rattle.specification.specs.Call.{Operation, Directive, Call, delete, send, urgent, broadcast, receive, get_number_pending, flush, create, ident, on_queue, call, tick}
use Rattle.specification.specs.Lookup.{usable, first_waiter, has_waiter, first_message, has_message, waiters_of, leave, without_waiters, without_messages}
use Rattle.specification.specs.Submit.{is_free_of, free_buffer_of, delivered, enqueued}
use Rattle.specification.specs.Receive.{received, wait_rank, waiting}
use Rattle.specification.specs.Step.{bad_caller, common_refusals, operation_refusals, directive_refusals, own_refusals, operation_effect, effect}
use Rattle.theorems.specs.Noninterference.{is_call_of, confined_directive, is_confined}
use Rattle.ranks.proofs.Lists.{holds, at-mapped, first-true, length-mapped, mapped-cong}
use Rattle.ranks.proofs.Tests.{both}
use Rattle.specification.proofs.Accepted.{Accepted, accepted-facts, creatable, name-found}
use Rattle.specification.proofs.SoundFacts.{Sized, is-sound}
use Rattle.specification.proofs.OnRecords.{call_on_records}
use Rattle.specification.proofs.Refused.{None}
use Rattle.theorems.proofs.SoundCreate.{slot-found}
use Rattle.theorems.proofs.SoundReceive.{first_holds}
use Rattle.theorems.proofs.SoundSubmit.{slot-below}
use Rattle.theorems.proofs.Equivalent.{SameAt, same-mapped, like-outside, like-in, Equivalent, Confined, tasks-in-own, pool-in-own, Consistent, refusals-consistent}
use Rattle.specification.specs.Create
use Rattle.specification.specs.Ident
use Rattle.specification.specs.Delete
use Rattle.specification.specs.Submit
use Rattle.specification.specs.Broadcast
use Rattle.specification.specs.Receive
use Rattle.specification.specs.GetNumberPending
use Rattle.specification.specs.Flush

-- a list of tests of which the second fails
second-fails : (a b : Bool) (bs : List Bool) → b ≡ false → all_true (a ∷ b ∷ bs) ≡ false
unfolding all_true
second-fails true true bs e = absurd (true≢false e)
second-fails true false bs e = refl
second-fails false b bs e = refl

and-false : (a : Bool) {b : Bool} → b ≡ false → a && b ≡ false
and-false true e = e
and-false false e = refl

-- the slot that an ident finds is of the share
named-found : (s : State) → Sized s → (caller name share : ℕ) → Ident.named s caller name share < slot_count → share_of_slot (Ident.named s caller name share) ≡ share
unfolding Ident.named
named-found s z caller name share h =
    let lt : Ident.named s caller name share < length s.queues = omega (arith, z.queues) in
    let e = first-true (map_with_index F s.queues) (subst (λ (n : ℕ). Ident.named s caller name share < n) (sym (length-mapped F s.queues)) lt) in
    eqb-true _ _ (holds _ (sym (at-mapped F s.queues _ (free_queue 0) false lt) ∙ e)).1.0
  where
    F : ℕ → Queue → Bool
    F i q = all_true (is_live q ∷ eqb (share_of_slot i) share ∷ eqb q.name name ∷ (eqb share (share_of_task caller) || is_open q) ∷ [])

module _ {x : ℕ} {s s' : State} (p : Confined x s) (p' : Confined x s') (e : Equivalent x s s') where
  z : Sized s
  z = p.facts.sized

  z' : Sized s'
  z' = p'.facts.sized

  -- ---- The same is done to each record

  pub queues-same : (F : ℕ → Queue → Queue) → SameAt share_of_slot x slot_count (free_queue 0) (map_with_index F s.queues) (map_with_index F s'.queues)
  queues-same F = same-mapped share_of_slot x slot_count (free_queue 0) F s.queues s'.queues z.queues z'.queues e.queues

  pool-same : (F : ℕ → Buffer → Buffer) → SameAt share_of_buffer x buffer_count free_buffer (map_with_index F s.pool) (map_with_index F s'.pool)
  pool-same F = same-mapped share_of_buffer x buffer_count free_buffer F s.pool s'.pool z.pool z'.pool e.pool

  pub tasks-same : (F : ℕ → Task → Task) → SameAt share_of_task x task_count (fresh_task 1) (map_with_index F s.tasks) (map_with_index F s'.tasks)
  tasks-same F = same-mapped share_of_task x task_count (fresh_task 1) F s.tasks s'.tasks z.tasks z'.tasks e.tasks

  -- ---- Searches and sums that look at the share's records alone

  -- over the queues of the share
  queues-alike : {B : Type 0} (b : B) (F : ℕ → Queue → B) → ((i : ℕ) (q : Queue) → (share_of_slot i ≡ x → ⊥) → F i q ≡ b)
      → map_with_index F s.queues ≡ map_with_index F s'.queues
  queues-alike b F off =
      like-outside share_of_slot x slot_count (free_queue 0) b F s.queues s'.queues z.queues z'.queues e.queues off

  same-free_slot : Create.free_slot s x ≡ Create.free_slot s' x
  unfolding Create.free_slot
  same-free_slot = ap first_true (queues-alike false _ (λ i q n. second-fails _ _ _ (ne_eqb _ _ n)))

  same-limits : limits s x ≡ limits s' x
  unfolding limits
  same-limits = ap sum_of (queues-alike 0 _ (λ i q n. rw (ne_eqb _ _ n)))

  same-named : (caller name : ℕ) → Ident.named s caller name x ≡ Ident.named s' caller name x
  unfolding Ident.named
  same-named caller name = ap first_true (queues-alike false _ (λ i q n. second-fails _ _ _ (ne_eqb _ _ n)))

  same-free_buffer : free_buffer_of s x ≡ free_buffer_of s' x
  unfolding free_buffer_of
  same-free_buffer =
      ap first_true
      (like-outside share_of_buffer x buffer_count free_buffer false (is_free_of x) s.pool s'.pool z.pool z'.pool e.pool
      (λ b m n. and-false (eqb m.position.queue 0) (ne_eqb _ _ n)))

  -- ---- Create and ident

  create-consistent : (slot name limit max_size attributes : ℕ) → slot < slot_count → share_of_slot slot ≡ x
      → Consistent x (Create.effect s slot name limit max_size attributes) (Create.effect s' slot name limit max_size attributes)
  unfolding Create.effect
  create-consistent slot name limit max_size attributes h o =
      record {
        answer = ap (λ (q : Queue). (outcome 0 (id_of (suc q.generation) slot) 0 s).answer) (e.queues slot h o);
        after = record { queues = queues-same _; pool = e.pool; tasks = e.tasks };
      }

  ident-consistent : (slot : ℕ) → slot < slot_count → share_of_slot slot ≡ x → Consistent x (Ident.effect s slot) (Ident.effect s' slot)
  unfolding Ident.effect
  ident-consistent slot h o =
      record { answer = ap (λ (q : Queue). (outcome 0 (id_of q.generation slot) 0 s).answer) (e.queues slot h o); after = e }

  -- ---- Directives on a queue of the share

  module _ (slot : ℕ) (slot< : slot < slot_count) (own : share_of_slot slot ≡ x) where
    same_queue : queue_at s slot ≡ queue_at s' slot
    same_queue = e.queues slot slot< own

    -- over the tasks that wait in the queue, and over the messages that are in it
    waiters-alike : {B : Type 0} (b : B) (F : ℕ → Task → B) → ((t : ℕ) (w : Task) → (w.position.queue ≡ suc slot → ⊥) → F t w ≡ b)
        → map_with_index F s.tasks ≡ map_with_index F s'.tasks
    waiters-alike b F off =
        like-in share_of_task (λ w. w.position) x task_count (fresh_task 1) slot own b F s.tasks s'.tasks z.tasks z'.tasks e.tasks (tasks-in-own p) (tasks-in-own p') off

    messages-alike : {B : Type 0} (b : B) (F : ℕ → Buffer → B) → ((j : ℕ) (m : Buffer) → (m.position.queue ≡ suc slot → ⊥) → F j m ≡ b)
        → map_with_index F s.pool ≡ map_with_index F s'.pool
    messages-alike b F off =
        like-in share_of_buffer (λ m. m.position) x buffer_count free_buffer slot own b F s.pool s'.pool z.pool z'.pool e.pool (pool-in-own p) (pool-in-own p') off

    same-first_waiter : first_waiter s slot ≡ first_waiter s' slot
    unfolding first_waiter
    same-first_waiter = ap first_true (waiters-alike false (λ t w. stands_at slot 0 w.position) (λ t w n. rw (ne_eqb _ _ n)))

    same-waiters : waiters_of slot s.tasks ≡ waiters_of slot s'.tasks
    unfolding waiters_of
    same-waiters = waiters-alike false (λ t w. in_queue slot w.position) (λ t w n. ne_eqb _ _ n)

    same-first_message : first_message s slot ≡ first_message s' slot
    unfolding first_message
    same-first_message = ap first_true (messages-alike false (λ b m. stands_at slot 0 m.position) (λ b m n. rw (ne_eqb _ _ n)))

    same-wait_rank : (caller : ℕ) → caller < task_count → share_of_task caller ≡ x → wait_rank s caller slot ≡ wait_rank s' caller slot
    unfolding wait_rank
    same-wait_rank caller h o =
        rw (← same_queue, ← e.tasks caller h o)
        (ap (λ (l : List ℕ). if has_priority (queue_at s slot) then minimum (queue_at s slot).waiters l else (queue_at s slot).waiters)
        (waiters-alike (queue_at s slot).waiters
        (λ t w. if in_queue slot w.position && ltb (task_at s caller).priority w.priority then w.position.rank else (queue_at s slot).waiters)
        (λ t w n. rw (ne_eqb _ _ n))))

    delete-consistent : Consistent x (Delete.effect s slot) (Delete.effect s' slot)
    unfolding Delete.effect without_waiters without_messages
    delete-consistent =
        record {
          answer = ap (λ (bs : List Bool). (outcome 0 0 (mask bs) s).answer) same-waiters;
          after = record { queues = queues-same _; pool = pool-same _; tasks = tasks-same _ };
        }

    delivered-consistent : (t : ℕ) (message : List ℕ) → Consistent x (delivered s t slot message) (delivered s' t slot message)
    unfolding delivered leave
    delivered-consistent t message =
        record {
          answer =
              ap (λ (bs : List Bool). (outcome 0 0 (mask bs) s).answer)
              (mapped-cong (λ j w. eqb j t) (λ j w. eqb j t) s.tasks s'.tasks (fresh_task 1) (fresh_task 1) false (z.tasks ∙ sym z'.tasks) (λ j h. refl));
          after = record { queues = queues-same _; pool = e.pool; tasks = tasks-same _ };
        }

    enqueued-consistent : (b rank : ℕ) (message : List ℕ) → Consistent x (enqueued s b slot rank message) (enqueued s' b slot rank message)
    unfolding enqueued
    enqueued-consistent b rank message = record { answer = refl; after = record { queues = queues-same _; pool = pool-same _; tasks = e.tasks } }

    submit-consistent : (rank : ℕ) (message : List ℕ) → Consistent x (Submit.effect s slot rank message) (Submit.effect s' slot rank message)
    unfolding Submit.effect
    submit-consistent rank message = rw (own, ← same-first_waiter, ← same-free_buffer) (go (has_waiter s slot))
      where
        go : (b : Bool)
            → Consistent x (if b then delivered s (first_waiter s slot) slot message else enqueued s (free_buffer_of s x) slot rank message)
            (if b then delivered s' (first_waiter s slot) slot message else enqueued s' (free_buffer_of s x) slot rank message)
        go true = delivered-consistent (first_waiter s slot) message
        go false = enqueued-consistent (free_buffer_of s x) rank message

    broadcast-consistent : (message : List ℕ) → Consistent x (Broadcast.effect s slot message) (Broadcast.effect s' slot message)
    unfolding Broadcast.effect without_waiters
    broadcast-consistent message =
        record {
          answer = ap (λ (bs : List Bool). (outcome 0 (count_true bs) (mask bs) s).answer) same-waiters;
          after = record { queues = queues-same _; pool = e.pool; tasks = tasks-same _ };
        }

    received-consistent : (caller b : ℕ) → b < buffer_count → share_of_buffer b ≡ x → Consistent x (received s caller slot b) (received s' caller slot b)
    unfolding received
    received-consistent caller b h o =
        rw (← e.pool b h o) (record { answer = refl; after = record { queues = queues-same _; pool = pool-same _; tasks = tasks-same _ } })

    waiting-consistent : (caller rank ticks : ℕ) → Consistent x (waiting s caller slot rank ticks) (waiting s' caller slot rank ticks)
    unfolding waiting
    waiting-consistent caller rank ticks = record { answer = refl; after = record { queues = queues-same _; pool = e.pool; tasks = tasks-same _ } }

    receive-consistent : (caller ticks : ℕ) → caller < task_count → share_of_task caller ≡ x → Consistent x (Receive.effect s caller slot ticks) (Receive.effect s' caller slot ticks)
    unfolding Receive.effect
    receive-consistent caller ticks h o = rw (← same-first_message, ← same-wait_rank caller h o) (go (has_message s slot) refl)
      where
        go : (b : Bool) → has_message s slot ≡ b
            → Consistent x (if b then received s caller slot (first_message s slot) else waiting s caller slot (wait_rank s caller slot) ticks)
            (if b then received s' caller slot (first_message s slot) else waiting s' caller slot (wait_rank s caller slot) ticks)
        go true k =
            let lt : first_message s slot < buffer_count = ltb-true _ _ k in
            received-consistent caller (first_message s slot) lt ((pool-in-own p).of-queue _ slot lt (first_holds s z slot lt).0 own)
        go false k = waiting-consistent caller (wait_rank s caller slot) ticks

    pending-consistent : Consistent x (GetNumberPending.effect s slot) (GetNumberPending.effect s' slot)
    unfolding GetNumberPending.effect
    pending-consistent = record { answer = ap (λ (q : Queue). (outcome 0 q.pending 0 s).answer) same_queue; after = e }

    flush-consistent : Consistent x (Flush.effect s slot) (Flush.effect s' slot)
    unfolding Flush.effect without_messages
    flush-consistent =
        record {
          answer = ap (λ (q : Queue). (outcome 0 q.pending 0 s).answer) same_queue;
          after = record { queues = queues-same _; pool = pool-same _; tasks = e.tasks };
        }

    -- the refusals, and the effect, of each

    same-operation_refusals : (caller : ℕ) (o : Operation) → operation_refusals s caller slot o ≡ operation_refusals s' caller slot o
    unfolding operation_refusals Submit.refusals Broadcast.refusals Receive.refusals
    same-operation_refusals caller delete = refl
    same-operation_refusals caller (send message) = rw (own, same_queue, same-first_waiter, same-free_buffer)
    same-operation_refusals caller (urgent message) = rw (own, same_queue, same-first_waiter, same-free_buffer)
    same-operation_refusals caller (broadcast message) = rw same_queue
    same-operation_refusals caller (receive option ticks) = rw same-first_message
    same-operation_refusals caller get_number_pending = refl
    same-operation_refusals caller flush = refl

    operation-consistent : (caller : ℕ) → caller < task_count → share_of_task caller ≡ x → (o : Operation)
        → Consistent x (operation_effect s caller slot o) (operation_effect s' caller slot o)
    unfolding operation_effect
    operation-consistent caller h k delete = delete-consistent
    operation-consistent caller h k (send message) = rw (← same_queue) (submit-consistent (queue_at s slot).pending message)
    operation-consistent caller h k (urgent message) = submit-consistent 0 message
    operation-consistent caller h k (broadcast message) = broadcast-consistent message
    operation-consistent caller h k (receive option ticks) = receive-consistent caller ticks h k
    operation-consistent caller h k get_number_pending = pending-consistent
    operation-consistent caller h k flush = flush-consistent

  -- ---- The share's own call

  module _ (caller : ℕ) (caller< : caller < task_count) (own : share_of_task caller ≡ x) where
    same-directive_refusals : (d : Directive) → confined_directive x d ≡ true → directive_refusals s caller d ≡ directive_refusals s' caller d
    unfolding directive_refusals confined_directive Create.refusals Ident.refusals usable
    same-directive_refusals (create name limit max_size attributes) k = rw (own, same-free_slot, same-limits)
    same-directive_refusals (ident name share) k = rw (eqb-true share x k, same-named caller name)
    same-directive_refusals (on_queue id operation) k =
        let o : share_of_slot (slot_of id) ≡ x = eqb-true _ _ k in
        rw (same_queue (slot_of id) (slot-below id) o, same-operation_refusals (slot_of id) (slot-below id) o caller operation)

    directive-consistent : (d : Directive) → confined_directive x d ≡ true → None (directive_refusals s caller d)
        → Consistent x (effect s (call caller d)) (effect s' (call caller d))
    unfolding directive_refusals confined_directive effect
    directive-consistent (create name limit max_size attributes) k n =
        let lt : Create.free_slot s x < slot_count = rw own at (creatable s (share_of_task caller) name limit max_size attributes n).slot_below in
        rw (own, ← same-free_slot) (create-consistent (Create.free_slot s x) name limit max_size attributes lt (slot-found s z x lt).1)
    directive-consistent (ident name share) k n =
        let q : share ≡ x = eqb-true _ _ k in
        let lt : Ident.named s caller name x < slot_count = rw q at (name-found s caller name share n) in
        rw (q, ← same-named caller name) (ident-consistent (Ident.named s caller name x) lt (named-found s z caller name x lt))
    directive-consistent (on_queue id operation) k n = operation-consistent (slot_of id) (slot-below id) (eqb-true _ _ k) caller caller< own operation

  pub own-consistent : (c : Call) → is_call_of x c ≡ true → is_confined x c ≡ true → Consistent x (call_on_records s c) (call_on_records s' c)
  unfolding call_on_records is_call_of is_confined common_refusals own_refusals bad_caller Accepted
  own-consistent (call caller d) o k =
      let (a, b) = both (ltb caller task_count) _ o in
      let lt : caller < task_count = ltb-true _ _ a in
      let own : share_of_task caller ≡ x = eqb-true _ _ b in
      refusals-consistent e _ _ _ _
      (rw (is-sound s p.facts, is-sound s' p'.facts, e.tasks caller lt own, same-directive_refusals caller lt own d k))
      (λ n. directive-consistent caller lt own d k (accepted-facts s (call caller d) n).directive)
  own-consistent tick o k = absurd (false≢true o)
