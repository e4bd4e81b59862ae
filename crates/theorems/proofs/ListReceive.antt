-- Receive on a queue as a list. Assumes nothing.
use Prim.Native.Nat.{ℕ, zero, suc, ◌-◌, ◌≤◌, ◌<◌}
use native.Mathlib.Nat.{not-suc-le-zero}
use native.Mathlib.Omega.{arith}
use mathlib.Core.Path.{◌≡◌, refl, sym, ap, ◌∙◌, subst}
use mathlib.Core.Bool.{Bool, true, false}
use mathlib.Core.Logic.{inr, ⊎_elim}
use mathlib.Core.List.{List, [], ◌∷◌, ◌++◌, map}
use lib.Dec.{eqb}
use lib.ListN.{length, get_or, take, drop, length-take, drop_of_length-le}
use lib.Seq.{take_all}
use borrow.Author.Tests.{ltb-true, ltb-false, lt-ltb, le-ltb}
use Rattle.std.specs.Prelude.{if◌then◌else◌}
use Rattle.ranks.specs.Position.{Position, no_queue, position_at}
use Rattle.ranks.specs.Steps.{inserted, taken_out, by_rank}
use Rattle.records.specs.Layout.{slot_count, buffer_count, task_count, capacity}
use Rattle.records.specs.Records.{Queue, Buffer, Task, State, has_priority, is_waiting, queue_at, buffer_at, task_at, free_buffer, fresh_task, message_in}
use Rattle.records.specs.Changes.{at_index, with_pending, with_waiters, move_buffer, with_message, move_task, waiting_at}
use Rattle.specification.specs.Answer.{Outcome}
use Rattle.specification.specs.Call.{receive}
use Rattle.specification.specs.Lookup.{first_message, has_message}
use Rattle.specification.specs.Receive.{received, wait_rank, waiting, effect}
use Rattle.theorems.specs.QueueLists.{Contents, contents, insert_by_priority, leaves, caller_waits, take_message, on_list, task_after, OperationOnLists}
use Rattle.ranks.proofs.Lists.{at-mapped}
use Rattle.ranks.proofs.Ranks.{in_itself, out-itself, out_stays}
use Rattle.ranks.proofs.ByRank.{Stands, Changed, alike, by-rank-listed, length-by-rank, inserted-list, taken-table, taken-first}
use Rattle.specification.proofs.Rules.{size-at-most, Ready, buffer-rules}
use Rattle.specification.proofs.SoundFacts.{Sized, SoundFacts, buffers-ranked, tasks-ranked}
use Rattle.theorems.proofs.KeptQueues.{at_both, live_of}
use Rattle.theorems.proofs.SoundReceive.{is-ready, first_holds, none-held, wait_rank-bound, ahead_of, behind-of}
use Rattle.theorems.proofs.ListSteps.{map-by-rank, stepped-at, stepped-other, stepped-changed, taken-agree, inserted-agree}
use Rattle.theorems.proofs.ListContents.{same-messages, same-waiters, kept-messages, both-lists, no-messages, count-waiters, mask-none, same-task, moved-task, changed-queues}
use Rattle.theorems.proofs.CountChange
use Rattle.theorems.proofs.CountChange.{QueueChanged}

-- a ready task is in no queue
at-no-queue : {w : Task} → Ready w → w.position ≡ no_queue
at-no-queue r = λ i. record { queue = r.queue i; rank = r.rank i }

-- ---- A message that is received

module _ {s : State} (g : SoundFacts s) (caller slot b : ℕ) (caller< : caller < task_count) (rdy : Ready (task_at s caller)) (slot< : slot < slot_count)
    (stands : Stands buffer_count (λ j. (buffer_at s j).position) slot 0 b) (z' : Sized (received s caller slot b).after) where
  abbrev s' : State
  s' = (received s caller slot b).after

  abbrev less : Queue → Queue
  less q = with_pending (q.pending - 1) q

  abbrev message : List ℕ
  message = message_in (buffer_at s b)

  change : QueueChanged s s' slot less
  unfolding received
  change = record { facts = g; sized = z'; inside = slot<; queues = refl }

  changed : Changed (λ (m : Buffer). m.position) free_buffer buffer_count s.pool s'.pool (taken_out b slot 0)
  unfolding received
  changed =
      stepped-changed (buffers-ranked s g slot slot<) move_buffer b (λ _. free_buffer) (taken_out b slot 0) (λ p m. refl) (λ m. sym (out-itself b slot 0 m.position))

  -- every other buffer holds what it held
  held : (j : ℕ) → j < buffer_count → (j ≡ b → ⊥) → message_in (buffer_at s' j) ≡ message_in (buffer_at s j)
  unfolding received
  held j h ne = ap message_in (stepped-other (buffers-ranked s g slot slot<) move_buffer b (λ _. free_buffer) (taken_out b slot 0) j h ne)

  messages : (contents s slot).messages ≡ message ∷ (contents s' slot).messages
  unfolding contents received
  messages =
      let f : ℕ → List ℕ = λ j. message_in (buffer_at s j) in
      ap (map f) (taken-first (buffers-ranked s g slot slot<) s'.pool z'.pool b stands changed)
      ∙ ap (λ (ms : List (List ℕ)). message ∷ ms)
      (map-by-rank (taken-table (buffers-ranked s g slot slot<) s'.pool z'.pool b 0 stands changed) _ _
      (λ j h q.
      sym
      (held j h
      (λ e.
      let z : suc slot ≡ 0 =
      sym q ∙ ap (λ (k : ℕ). (buffer_at s' k).position.queue) e ∙ ap (λ (p : Position). p.queue) (changed b stands.0 ∙ out-itself b slot 0 _) in
      omega arith)))
      ∙ ap (λ (n : ℕ). map (λ j. message_in (buffer_at s' j)) (by_rank (λ (m : Buffer). m.position) slot n s'.pool))
      (sym (ap (λ (q : Queue). q.pending) (CountChange.here change))))

  other : (i : ℕ) → i < slot_count → (i ≡ slot → ⊥) → (contents s' i).messages ≡ (contents s i).messages
  unfolding received
  other i i< ne =
      same-messages g i i< s' z' (ap (λ (q : Queue). q.pending) (CountChange.other change i i< ne))
      (taken-agree (buffers-ranked s g i i<) s'.pool b slot 0 ne stands.1 changed)
      (λ j h q.
      held j h (λ e. ne (let y : suc i ≡ suc slot = sym q ∙ ap (λ (k : ℕ). (buffer_at s k).position.queue) e ∙ stands.1 in omega arith)))

  task-after : (j : ℕ) → j < task_count → task_at s' j ≡ at_index caller (with_message message) j (task_at s j)
  unfolding received
  task-after j h = at-mapped (at_index caller (with_message message)) s.tasks j (fresh_task 1) (fresh_task 1) (omega (arith, g.sized.tasks))

  waiters : (i : ℕ) → i < slot_count → (contents s' i).waiters ≡ (contents s i).waiters
  unfolding received
  waiters i i< =
      same-waiters g i i< s' z' (CountChange.of-each change (λ i q. q.waiters ≡ (queue_at s i).waiters) refl (λ i h. refl) i i<)
      (λ j h.
      alike
      (ap (λ (w : Task). w.position) (task-after j h)
      ∙ at_both (λ k w. w.position ≡ (task_at s k).position) caller (with_message message) j (task_at s j)
      (λ e. subst (λ (k : ℕ). no_queue ≡ (task_at s k).position) (sym e) (sym (at-no-queue rdy))) (λ _. refl)))

  -- the message has the length that its buffer says
  whole : length (buffer_at s b).bytes ≡ capacity → (buffer_at s b).message_length ≡ length message
  whole long =
      ⊎_elim (λ u. absurd (let e : 0 ≡ suc slot = sym u.queue ∙ stands.1 in omega arith))
      (λ u.
      let h = size-at-most _ _ u.size in
      let k = (live_of _ (g.queue u.slot u.slot_below) (inr (inr u.live))).size-high in
      omega (arith, length-take (buffer_at s b).message_length (buffer_at s b).bytes))
      (buffer-rules s b _ (g.buffer b stands.0))

  still-free : (j : ℕ) → j < buffer_count → (buffer_at s j).position.queue ≡ 0 → (buffer_at s' j).position.queue ≡ 0
  still-free j h free =
      ap (λ (p : Position). p.queue)
      (changed j h
      ∙ out_stays b slot 0 j _ (λ e. let z : 0 ≡ suc slot = sym free ∙ ap (λ (k : ℕ). (buffer_at s k).position.queue) e ∙ stands.1 in omega arith)
      (λ z. omega arith))
      ∙ free

  pub received-lists : length (buffer_at s b).bytes ≡ capacity
      → OperationOnLists s slot (received s caller slot b) (leaves (contents s' slot).messages (contents s slot).waiters [] (length message))
      (λ k w. if eqb k caller then with_message message w else w) (λ q. q)
  unfolding received
  received-lists long =
      record {
        queue = both-lists refl (waiters slot slot<);
        others = λ i i< ne. both-lists (other i i< ne) (waiters i i<);
        status = refl;
        value = whole long;
        woken = mask-none;
        tasks = λ k h. same-task _ _ (task-after k h);
        queues = changed-queues change (λ q. q) (λ q. refl);
        queued = λ j h free used. absurd (used (still-free j h free));
      }

-- ---- A caller that waits

module _ {s : State} (g : SoundFacts s) (caller slot rank ticks : ℕ) (caller< : caller < task_count) (rdy : Ready (task_at s caller)) (slot< : slot < slot_count)
    (le : rank ≤ (queue_at s slot).waiters) (z' : Sized (waiting s caller slot rank ticks).after) where
  abbrev w' : State
  w' = (waiting s caller slot rank ticks).after

  abbrev more : Queue → Queue
  more q = with_waiters (suc q.waiters) q

  joining : QueueChanged s w' slot more
  unfolding waiting
  joining = record { facts = g; sized = z'; inside = slot<; queues = refl }

  joins : Changed (λ (w : Task). w.position) (fresh_task 1) task_count s.tasks w'.tasks (inserted caller slot rank)
  unfolding waiting
  joins =
      stepped-changed (tasks-ranked s g slot slot<) move_task caller (waiting_at (position_at slot rank) ticks) (inserted caller slot rank) (λ p w. refl)
      (λ w. sym (in_itself caller slot rank w.position))

  joined : (contents w' slot).waiters ≡ take rank (contents s slot).waiters ++ caller ∷ drop rank (contents s slot).waiters
  unfolding waiting contents
  joined =
      ap (λ (n : ℕ). by_rank (λ (w : Task). w.position) slot n w'.tasks)
      (ap (λ (q : Queue). q.waiters) (CountChange.here joining))
      ∙ inserted-list (tasks-ranked s g slot slot<) w'.tasks z'.tasks caller rank caller< rdy.queue le joins

  pub waiting-lists : (ws : List ℕ) → take rank (contents s slot).waiters ++ caller ∷ drop rank (contents s slot).waiters ≡ ws
      → (contents s slot).messages ≡ []
      → OperationOnLists s slot (waiting s caller slot rank ticks) (caller_waits ws) (λ k w. if eqb k caller then waiting_at w.position ticks w else w) (λ q. q)
  unfolding waiting
  waiting-lists ws at-rank none =
      record {
        queue = both-lists (kept slot slot< ∙ none) (joined ∙ at-rank);
        others =
            λ i i< ne.
            both-lists (kept i i<)
            (same-waiters g i i< w' z' (ap (λ (q : Queue). q.waiters) (CountChange.other joining i i< ne))
            (inserted-agree (tasks-ranked s g i i<) w'.tasks caller slot rank ne rdy.queue joins));
        status = refl;
        value = refl;
        woken = mask-none;
        tasks =
            λ k h.
            moved-task (waiting_at (position_at slot rank) ticks) (λ w. waiting_at w.position ticks w) _ _ (eqb k caller) _ refl
            (stepped-at (tasks-ranked s g slot slot<) move_task caller (waiting_at (position_at slot rank) ticks) (inserted caller slot rank) k h);
        queues = changed-queues joining (λ q. q) (λ q. refl);
        queued = λ b h free used. absurd (used free);
      }
    where
      kept : (i : ℕ) → i < slot_count → (contents w' i).messages ≡ (contents s i).messages
      kept = kept-messages joining refl refl

-- ---- The place of a caller that waits

-- behind all of equal or smaller number, and before the others
insert-at : (p : ℕ → ℕ) (c : ℕ) (l : List ℕ) (k : ℕ) → k ≤ length l → ((i : ℕ) → i < k → p (get_or l i 0) ≤ p c) → (k < length l → p c < p (get_or l k 0))
    → take k l ++ c ∷ drop k l ≡ insert_by_priority p c l
unfolding insert_by_priority
insert-at p c [] zero le ahead behind = refl
insert-at p c [] (suc k) le ahead behind = absurd (not-suc-le-zero le)
insert-at p c (w ∷ l) zero le ahead behind = rw (lt-ltb (p c) (p w) (behind (omega arith)))
insert-at p c (w ∷ l) (suc k) le ahead behind =
    let rest : take k l ++ c ∷ drop k l ≡ insert_by_priority p c l =
    insert-at p c l k (omega arith) (λ i lt. ahead (suc i) (omega arith)) (λ lt. behind (omega arith)) in
    rw (le-ltb (p c) (p w) (ahead 0 (omega arith))) (ap (λ (r : List ℕ). w ∷ r) rest)

module _ {s : State} (g : SoundFacts s) (caller slot : ℕ) (slot< : slot < slot_count) where
  abbrev ws : List ℕ
  ws = (contents s slot).waiters

  by-priority : has_priority (queue_at s slot) ≡ true
      → take (wait_rank s caller slot) ws ++ caller ∷ drop (wait_rank s caller slot) ws ≡ insert_by_priority (λ t. (task_at s t).priority) caller ws
  unfolding contents
  by-priority p =
      let table = tasks-ranked s g slot slot< in
      let bound = wait_rank-bound s g caller slot slot< in
      insert-at (λ t. (task_at s t).priority) caller ws (wait_rank s caller slot) (omega (arith, length-by-rank table))
      (λ i lt. let (j, q, r) = (by-rank-listed table).entry i 0 (omega arith) in ahead_of s g caller slot slot< p _ j q (omega arith))
      (λ lt.
      let (j, q, r) = (by-rank-listed table).entry (wait_rank s caller slot) 0 (omega (arith, length-by-rank table)) in
      behind-of s g caller slot slot< p _ j q (omega arith))

  at-rear : has_priority (queue_at s slot) ≡ false → take (wait_rank s caller slot) ws ++ caller ∷ drop (wait_rank s caller slot) ws ≡ ws ++ (caller ∷ [])
  unfolding wait_rank
  at-rear p =
      let le : length ws ≤ (queue_at s slot).waiters = omega (arith, count-waiters g slot slot<) in
      rw (p, wait_rank) (rw (take_all (queue_at s slot).waiters ws le, drop_of_length-le ws le))

  in_place : take (wait_rank s caller slot) ws ++ caller ∷ drop (wait_rank s caller slot) ws
      ≡ (if has_priority (queue_at s slot) then insert_by_priority (λ t. (task_at s t).priority) caller ws else ws ++ (caller ∷ []))
  in_place = go (has_priority (queue_at s slot)) refl
    where
      go : (b : Bool) → has_priority (queue_at s slot) ≡ b
          → take (wait_rank s caller slot) ws ++ caller ∷ drop (wait_rank s caller slot) ws
          ≡ (if b then insert_by_priority (λ t. (task_at s t).priority) caller ws else ws ++ (caller ∷ []))
      go true p = by-priority p
      go false p = at-rear p

-- ---- Receive

module _ {s : State} (g : SoundFacts s) (caller slot option ticks : ℕ) (caller< : caller < task_count) (ready : is_waiting (task_at s caller) ≡ false) (slot< : slot < slot_count) where
  -- where ms are the messages
  abbrev Receives : (ms : List (List ℕ)) → Outcome State → Type 0
  Receives ms r =
      let q : Contents = record { messages = ms; waiters = (contents s slot).waiters } in
      OperationOnLists s slot r (on_list s caller slot (receive option ticks) q) (task_after caller (receive option ticks) q) (λ q. q)

  rdy : Ready (task_at s caller)
  rdy = is-ready s g caller caller< ready

  pub receive-lists : ((b : ℕ) → b < buffer_count → length (buffer_at s b).bytes ≡ capacity) → Sized (effect s caller slot ticks).after
      → Receives (contents s slot).messages (effect s caller slot ticks)
  unfolding effect on_list take_message task_after
  receive-lists long = go (has_message s slot) refl
    where
      go : (b : Bool) → has_message s slot ≡ b
          → Sized (if b then received s caller slot (first_message s slot) else waiting s caller slot (wait_rank s caller slot) ticks).after
          → Receives (contents s slot).messages
          (if b then received s caller slot (first_message s slot) else waiting s caller slot (wait_rank s caller slot) ticks)
      go true e z' =
          let h : first_message s slot < buffer_count = ltb-true _ _ e in
          let (q, r) = first_holds s g.sized slot h in
          subst (λ (ms : List (List ℕ)). Receives ms (received s caller slot (first_message s slot)))
          (sym (messages g caller slot _ caller< rdy slot< (h, q, r) z')) (received-lists g caller slot _ caller< rdy slot< (h, q, r) z' (long _ h))
      go false e z' =
          let none = no-messages s slot (none-held s g slot slot< (ltb-false _ _ e)) in
          subst (λ (ms : List (List ℕ)). Receives ms (waiting s caller slot (wait_rank s caller slot) ticks)) (sym none)
          (waiting-lists g caller slot (wait_rank s caller slot) ticks caller< rdy slot< (wait_rank-bound s g caller slot slot<) z' _ (in_place g caller slot slot<) none)
