-- What a directive does on sound tables, by its tests and its effect. Assumes nothing.
use Prim.Native.Nat.{ℕ, suc, ◌+◌, ◌^◌, ◌≤◌, ◌<◌}
use native.Mathlib.Omega.{arith}
use mathlib.Core.Path.{◌≡◌, refl, sym, ap, ◌∙◌}
use mathlib.Core.Logic.{⊎_elim}
use mathlib.Core.List.{List, [], ◌∷◌}
use lib.Dec.{eqb, leb, ltb}
use lib.Count.{ones}
use lib.ListN.{length}
use borrow.Author.Tests.{lt-leb, le-leb, lt-ltb, le-ltb}
use Rattle.std.specs.Prelude.{Ok, Err, not}
use Rattle.ranks.specs.Lists.{find_index, mask, all_true}
use Rattle.ranks.specs.Steps.{record_at}
use Rattle.ranks.proofs.Tests.{lt-or-ge}
use Rattle.records.specs.Layout.{slot_of, id_of, slot_count, buffer_count, task_count}
use Rattle.records.specs.Split.{share_count, share_limit, share_of_slot, share_of_task}
use Rattle.records.specs.Records.{Queue, State, attributes_allowed, limit_allowed, max_size_allowed, queue_at, buffer_at}
use Rattle.records.specs.Bytes.{Tables, decode_queues, decode_pool, decode_tasks, decode, encode, decode_queue_at}
use Rattle.records.specs.Status.{SUCCESSFUL, INVALID-NAME, INVALID-ID, INVALID-SIZE, INVALID-NUMBER, TOO-MANY, UNSATISFIED, INVALID-NODE, INVALID-OPTION, status_number}
use Rattle.records.specs.declared.status.RefusalStatus.{RefusalStatus}
use Rattle.records.proofs.Access.{queue-at, ones-mask}
use Rattle.records.proofs.Statuses.{not-zero}
use Rattle.specification.specs.Answer.{Answer, Outcome, ◌⇒◌, first_status}
use Rattle.specification.specs.Call.{Directive, call, create, ident, on_queue, delete, send, urgent, broadcast, receive, get_number_pending, flush}
use Rattle.specification.specs.Lookup.{usable, usable_queue, owner_tests, waiters_of, first_waiter, first_message}
use Rattle.specification.specs.Sound.{limits}
use Rattle.specification.specs.Create
use Rattle.specification.specs.Ident
use Rattle.specification.specs.Delete
use Rattle.specification.specs.Submit
use Rattle.specification.specs.Submit.{is_free_of, free_buffer_of, delivered, enqueued}
use Rattle.specification.specs.Broadcast
use Rattle.specification.specs.Receive
use Rattle.specification.specs.Receive.{received, wait_rank, waiting}
use Rattle.specification.specs.Flush
use Rattle.specification.specs.GetNumberPending
use Rattle.specification.specs.Step.{directive_refusals, operation_refusals, operation_effect, effect, encoded}
use Rattle.specification.proofs.Refused.{Numbered, none-holds, refused-first, refuses-none}
use Rattle.theorems.proofs.FieldsInRange.{decoded-sized}
use Rattle.soundness.specs.Parts.{only_queues}
use Rattle.coremsg.proofs.Changed.{mask_one}
use Rattle.manager.specs.Outcomes.{CodeAnswer, answer_of, outcome_of, accepted}
use Rattle.manager.proofs.Called.{called}
use Rattle.manager.proofs.Calls.{tested_calls}
use Rattle.manager.specs.Submits.{submit_operation, rank_at}
use Rattle.manager.specs.declared.msgqsubmit.SubmitType.{SubmitType}
use Rattle.manager.specs.declared.msgqsubmit.SubmitType.TheVariants.{Urgent, Send}
use Rattle.manager.specs.declared.answer.Completion.TheVariants.{Successful, Waiting}

-- a test that nothing was found, by the number of the records
none-there : (k i : ℕ) → leb k i ≡ not (ltb i k)
none-there k i = ⊎_elim (λ (h : i < k). rw (lt-leb k i h, lt-ltb i k h)) (λ (h : k ≤ i). rw (le-leb k i h, le-ltb i k h)) (lt-or-ge i k)

-- "15 (attributes above 3)", as the rule of a record says it
attributes-above : (n : ℕ) → not (attributes_allowed n) ≡ ltb 3 n
attributes-above n = ⊎_elim (λ (h : 3 < n). rw (lt-leb n 3 h, lt-ltb 3 n h)) (λ (h : n ≤ 3). rw (le-leb n 3 h, le-ltb 3 n h)) (lt-or-ge 3 n)

-- each test of a directive gives a status that is not 0
numbered : (t : Tables) (caller : ℕ) (directive : Directive) → Numbered (directive_refusals (decode t) caller directive)
unfolding directive_refusals operation_refusals Create.refusals Ident.refusals Delete.refusals Submit.refusals Broadcast.refusals Receive.refusals Flush.refusals all_true
numbered t caller (create name limit max_size attributes) = refl
numbered t caller (ident name share) = refl
numbered t caller (on_queue id delete) = refl
numbered t caller (on_queue id (send message)) = refl
numbered t caller (on_queue id (urgent message)) = refl
numbered t caller (on_queue id (broadcast message)) = refl
numbered t caller (on_queue id (receive option ticks)) = refl
numbered t caller (on_queue id get_number_pending) = refl
numbered t caller (on_queue id flush) = refl

module _ (t : Tables) (caller : ℕ) (directive : Directive) where
  -- its tests refuse the call
  pub refused_directive : (s : RefusalStatus) → status_number s ≡ first_status (directive_refusals (decode t) caller directive) → outcome_of (Err s) t ≡ accepted t caller directive
  unfolding answer_of
  refused_directive s e = refused-first t _ _ (status_number s) e (not-zero s)

  -- its tests let the call pass
  abbrev Passed : Type 0
  Passed = 0 ≡ first_status (directive_refusals (decode t) caller directive)

  completed : Passed → (o : Outcome State) → effect (decode t) (call caller directive) ≡ o → (a : CodeAnswer) (t' : Tables)
      → answer_of a ≡ o.answer → decode t' ≡ o.after → encode (decode t') ≡ t' → outcome_of a t' ≡ accepted t caller directive
  completed passed o is-effect a t' answered left bytes =
      (λ i. record { answer = answered i; after = (sym bytes ∙ ap encode left) i })
      ∙ ap encoded (sym is-effect) ∙ sym (refuses-none t _ _ (none-holds _ (numbered t caller directive) passed))

-- the answer of a call that is done
abbrev done : (value woken : ℕ) → Answer
done value woken = record { status = SUCCESSFUL; value = value; woken = woken }

-- ---- Create

module _ (t : Tables) (caller name limit max_size attributes : ℕ) where
  abbrev share : ℕ
  share = share_of_task caller

  abbrev free : ℕ
  free = find_index (Create.is_free_slot share) (decode_queues t.queues)

  pub create_tests : directive_refusals (decode t) caller (create name limit max_size attributes)
      ≡ (eqb name 0 ⇒ INVALID-NAME)
      ∷ (not (attributes_allowed attributes) ⇒ INVALID-OPTION)
      ∷ (not (limit_allowed limit) ⇒ INVALID-NUMBER)
      ∷ (not (max_size_allowed max_size) ⇒ INVALID-SIZE)
      ∷ (leb slot_count free ⇒ TOO-MANY)
      ∷ (ltb (share_limit share) (limits (only_queues t.queues) share + limit) ⇒ UNSATISFIED)
      ∷ []
  unfolding directive_refusals Create.refusals Create.free_slot limits decode
  create_tests = rw (attributes-above attributes)

  pub create_done : (value : ℕ) (t' : Tables) → free < slot_count → value ≡ id_of (suc (decode_queue_at free t.queues).generation) free
      → Passed t caller (create name limit max_size attributes) → decode t' ≡ (Create.effect (decode t) free name limit max_size attributes).after → encode (decode t') ≡ t'
      → outcome_of (Ok (Successful value 0)) t' ≡ accepted t caller (create name limit max_size attributes)
  unfolding answer_of effect Create.effect Create.free_slot decode
  create_done value t' below e passed left bytes =
      let made : Queue → Answer = λ x. done (id_of (suc x.generation) free) 0 in
      completed t caller _ passed _ refl (Ok (Successful value 0)) t' (ap (λ (n : ℕ). done n 0) e ∙ ap made (sym (queue-at t free below))) left bytes

-- ---- Ident

module _ (t : Tables) (caller name share : ℕ) where
  abbrev found : ℕ
  found = find_index (Ident.is_named caller name share) (decode_queues t.queues)

  pub ident_tests : directive_refusals (decode t) caller (ident name share)
      ≡ (eqb name 0 ⇒ INVALID-NAME) ∷ (leb share_count share ⇒ INVALID-NODE) ∷ (leb slot_count found ⇒ INVALID-NAME) ∷ []
  unfolding directive_refusals Ident.refusals Ident.named decode
  ident_tests = refl

  pub ident_done : (value : ℕ) → found < slot_count → value ≡ id_of (decode_queue_at found t.queues).generation found
      → Passed t caller (ident name share) → encode (decode t) ≡ t → outcome_of (Ok (Successful value 0)) t ≡ accepted t caller (ident name share)
  unfolding answer_of effect Ident.effect Ident.named decode
  ident_done value below e passed bytes =
      let told : Queue → Answer = λ x. done (id_of x.generation found) 0 in
      completed t caller _ passed _ refl (Ok (Successful value 0)) t (ap (λ (n : ℕ). done n 0) e ∙ ap told (sym (queue-at t found below))) refl bytes

-- ---- What is done to a queue

module _ (t : Tables) (caller id : ℕ) where
  abbrev q : Queue
  q = decode_queue_at (slot_of id) t.queues

  -- the queue's record that the code reads
  here : queue_at (decode t) (slot_of id) ≡ q
  here = queue-at t (slot_of id) (let h : slot_of id < slot_count = omega arith in h)

  count-here : (value : ℕ) → value ≡ q.pending → done value 0 ≡ done (queue_at (decode t) (slot_of id)).pending 0
  count-here value e = ap (λ (n : ℕ). done n 0) (e ∙ ap (λ (x : Queue). x.pending) (sym here))

  -- ---- Get number pending

  pub pending_tests : directive_refusals (decode t) caller (on_queue id get_number_pending) ≡ (not (usable_queue q caller id) ⇒ INVALID-ID) ∷ []
  unfolding directive_refusals operation_refusals usable
  pending_tests = rw here

  pub pending_done : (value : ℕ) → value ≡ q.pending → Passed t caller (on_queue id get_number_pending) → encode (decode t) ≡ t
      → outcome_of (Ok (Successful value 0)) t ≡ accepted t caller (on_queue id get_number_pending)
  unfolding answer_of effect operation_effect GetNumberPending.effect
  pending_done value e passed bytes = completed t caller _ passed _ refl (Ok (Successful value 0)) t (count-here value e) refl bytes

  -- ---- Flush

  pub flush_tests : directive_refusals (decode t) caller (on_queue id flush) ≡ owner_tests q caller id
  unfolding directive_refusals operation_refusals usable Flush.refusals
  flush_tests = rw here

  pub flush_done : (value : ℕ) (t' : Tables) → value ≡ q.pending → Passed t caller (on_queue id flush)
      → decode t' ≡ (Flush.effect (decode t) (slot_of id)).after → encode (decode t') ≡ t' → outcome_of (Ok (Successful value 0)) t' ≡ accepted t caller (on_queue id flush)
  unfolding answer_of effect operation_effect Flush.effect
  flush_done value t' e passed left bytes = completed t caller _ passed _ refl (Ok (Successful value 0)) t' (count-here value e) left bytes

  -- ---- Delete

  pub delete_tests : directive_refusals (decode t) caller (on_queue id delete) ≡ owner_tests q caller id
  unfolding directive_refusals operation_refusals usable Delete.refusals
  delete_tests = rw here

  pub delete_done : (woken : ℕ) (t' : Tables) → woken ≡ mask (waiters_of (slot_of id) (decode_tasks t.tasks)) → Passed t caller (on_queue id delete)
      → decode t' ≡ (Delete.effect (decode t) (slot_of id)).after → encode (decode t') ≡ t' → outcome_of (Ok (Successful 0 woken)) t' ≡ accepted t caller (on_queue id delete)
  unfolding answer_of effect operation_effect Delete.effect decode
  delete_done woken t' e passed left bytes = completed t caller _ passed _ refl (Ok (Successful 0 woken)) t' (ap (done 0) e) left bytes

  -- ---- Broadcast

  module _ (message : List ℕ) where
    pub broadcast_tests : directive_refusals (decode t) caller (on_queue id (broadcast message)) ≡ Broadcast.broadcast_tests q caller id (length message)
    unfolding directive_refusals operation_refusals usable Broadcast.refusals
    broadcast_tests = rw here

    pub broadcast_done : (value woken : ℕ) (t' : Tables) → value ≡ ones woken → woken ≡ mask (waiters_of (slot_of id) (decode_tasks t.tasks)) → Passed t caller (on_queue id (broadcast message))
        → decode t' ≡ (Broadcast.effect (decode t) (slot_of id) message).after → encode (decode t') ≡ t'
        → outcome_of (Ok (Successful value woken)) t' ≡ accepted t caller (on_queue id (broadcast message))
    unfolding answer_of effect operation_effect Broadcast.effect decode
    broadcast_done value woken t' counts e passed left bytes =
        let counted = counts ∙ ap ones e ∙ ones-mask (waiters_of (slot_of id) (decode_tasks t.tasks)) in
        completed t caller _ passed _ refl (Ok (Successful value woken)) t' (λ i. done (counted i) (e i)) left bytes

  -- ---- Receive

  abbrev first : ℕ
  first = record_at (λ m. m.position) (slot_of id) 0 (decode_pool t.pool)

  module _ (option ticks : ℕ) where
    pub receive_tests : directive_refusals (decode t) caller (on_queue id (receive option ticks)) ≡ Receive.receive_tests q caller id option first
    unfolding directive_refusals operation_refusals usable Receive.refusals first_message decode
    receive_tests = rw (here, none-there buffer_count first)

    pub receive_done : (value : ℕ) (t' : Tables) → first < buffer_count → value ≡ (buffer_at (decode t) first).message_length → Passed t caller (on_queue id (receive option ticks))
        → decode t' ≡ (received (decode t) caller (slot_of id) first).after → encode (decode t') ≡ t'
        → outcome_of (Ok (Successful value 0)) t' ≡ accepted t caller (on_queue id (receive option ticks))
    unfolding answer_of effect operation_effect Receive.effect received first_message decode
    receive_done value t' some size passed left bytes =
        completed t caller _ passed (received (decode t) caller (slot_of id) first) (rw (lt-ltb first buffer_count some)) (Ok (Successful value 0)) t'
        (ap (λ (n : ℕ). done n 0) size) left bytes

    pub receive_waits : (rank : ℕ) (t' : Tables) → buffer_count ≤ first → rank ≡ wait_rank (decode t) caller (slot_of id) → Passed t caller (on_queue id (receive option ticks))
        → decode t' ≡ (waiting (decode t) caller (slot_of id) rank ticks).after → encode (decode t') ≡ t'
        → outcome_of (Ok Waiting) t' ≡ accepted t caller (on_queue id (receive option ticks))
    unfolding answer_of effect operation_effect Receive.effect waiting first_message decode
    receive_waits rank t' none is-rank passed left bytes =
        completed t caller _ passed (waiting (decode t) caller (slot_of id) rank ticks) (rw (le-ltb first buffer_count none, is-rank)) (Ok Waiting) t' refl left bytes

  -- ---- Send, and urgent at the front

  abbrev waiter : ℕ
  waiter = record_at (λ w. w.position) (slot_of id) 0 (decode_tasks t.tasks)

  abbrev buffer : ℕ
  buffer = find_index (is_free_of (share_of_slot (slot_of id))) (decode_pool t.pool)

  module _ (message : List ℕ) where
    pub submit_tests : (submit_type : SubmitType) → directive_refusals (decode t) caller (on_queue id (submit_operation submit_type message)) ≡ Submit.submit_tests q caller id (length message) waiter buffer
    unfolding directive_refusals operation_refusals usable Submit.refusals first_waiter free_buffer_of decode
    submit_tests Urgent = rw (here, none-there task_count waiter)
    submit_tests Send = rw (here, none-there task_count waiter)

    to-waiter : waiter < task_count → (rank : ℕ) → Submit.effect (decode t) (slot_of id) rank message ≡ delivered (decode t) waiter (slot_of id) message
    unfolding Submit.effect first_waiter decode
    to-waiter some rank = rw (lt-ltb waiter task_count some)

    into-buffer : task_count ≤ waiter → (rank : ℕ) → Submit.effect (decode t) (slot_of id) rank message ≡ enqueued (decode t) buffer (slot_of id) rank message
    unfolding Submit.effect first_waiter free_buffer_of decode
    into-buffer nobody rank = rw (le-ltb waiter task_count nobody)

    submit_effect : (submit_type : SubmitType) → effect (decode t) (call caller (on_queue id (submit_operation submit_type message))) ≡ Submit.effect (decode t) (slot_of id) (rank_at submit_type q) message
    unfolding effect operation_effect
    submit_effect Urgent = refl
    submit_effect Send = ap (λ (x : Queue). Submit.effect (decode t) (slot_of id) x.pending message) here

    module _ (submit_type : SubmitType) where
      pub submit_delivered : (woken : ℕ) (t' : Tables) → waiter < task_count → woken ≡ 2 ^ waiter → Passed t caller (on_queue id (submit_operation submit_type message))
          → decode t' ≡ (delivered (decode t) waiter (slot_of id) message).after → encode (decode t') ≡ t' → outcome_of (Ok (Successful 0 woken)) t' ≡ accepted t caller (on_queue id (submit_operation submit_type message))
      unfolding answer_of delivered
      submit_delivered woken t' some e passed left bytes =
          completed t caller _ passed (delivered (decode t) waiter (slot_of id) message) (submit_effect submit_type ∙ to-waiter some (rank_at submit_type q)) (Ok (Successful 0 woken)) t'
          (ap (done 0) (e ∙ sym (mask_one waiter (decode t).tasks (omega (arith, some, (decoded-sized t).tasks))))) left bytes

      pub submit_enqueued : (rank : ℕ) (t' : Tables) → task_count ≤ waiter → rank ≡ rank_at submit_type q → Passed t caller (on_queue id (submit_operation submit_type message))
          → decode t' ≡ (enqueued (decode t) buffer (slot_of id) rank message).after → encode (decode t') ≡ t' → outcome_of (Ok (Successful 0 0)) t' ≡ accepted t caller (on_queue id (submit_operation submit_type message))
      unfolding answer_of enqueued
      submit_enqueued rank t' nobody e passed left bytes =
          completed t caller _ passed (enqueued (decode t) buffer (slot_of id) rank message) (submit_effect submit_type ∙ rw e (into-buffer nobody (rank_at submit_type q))) (Ok (Successful 0 0)) t'
          refl left bytes

-- What answers a call: the tests 16, 10 and 11, what they tell of the tables, and the directives.
pub ruleset directives = (tested_calls, called, refused_directive, create_tests, create_done, ident_tests, ident_done, pending_tests, pending_done, flush_tests, flush_done, delete_tests, delete_done, broadcast_tests, broadcast_done, receive_tests, receive_done, receive_waits, submit_tests, submit_delivered, submit_enqueued)
