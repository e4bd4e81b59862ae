-- No id is issued twice: a slot's generation never falls, and a create raises it above every id issued before. Assumes nothing.
use Prim.Native.Nat.{ℕ, suc, ◌≤◌, ◌<◌}
use native.Mathlib.Nat.{le_refl, le_trans}
use native.Mathlib.Omega.{arith}
use mathlib.Core.Path.{◌≡◌, refl, sym, ap, ◌∙◌, subst}
use mathlib.Core.Bool.{Bool, true, false, not, ◌&&◌}
use mathlib.Core.List.{List, [], ◌∷◌, ◌++◌}
use lib.Dec.{eqb}
use borrow.Author.Tests.{ne_eqb}
use Rattle.std.specs.Prelude.{if◌then◌else◌}
use Rattle.ranks.specs.Lists.{map_with_index, numbers_from}
use Rattle.records.specs.Split.{share_of_task}
use Rattle.records.specs.Layout.{slot_of, generation_of, id_of, slot_count, task_count}
use Rattle.records.specs.Status.{SUCCESSFUL}
use Rattle.records.specs.Records.{Queue, Task, State, queue_at, task_at, free_queue}
use Rattle.records.specs.Changes.{at_index}
use Rattle.specification.specs.Answer.{Answer, Outcome, refuse}
use Rattle.specification.specs.Call.{Operation, Call, delete, send, urgent, broadcast, receive, get_number_pending, flush, create, ident, on_queue, call, tick}
use Rattle.specification.specs.Lookup.{has_waiter, has_message, leave}
use Rattle.specification.specs.Tick.{tick_task, tick_tasks, expires, is_timed}
use Rattle.specification.specs.Step.{common_refusals, directive_refusals, own_refusals, operation_effect, effect}
use Rattle.theorems.specs.Demands.{is_create, issued, distinct}
use Rattle.theorems.specs.QueueLists.{member}
use Rattle.ranks.proofs.Lists.{at-mapped}
use Rattle.ranks.proofs.Tests.{and}
use Rattle.specification.proofs.OnRecords.{call_on_records, events_on_records}
use Rattle.specification.proofs.Refused.{None, refused-with, refused-or}
use Rattle.specification.proofs.Accepted.{Accepted, accepted-facts, creatable}
use Rattle.specification.proofs.SoundFacts.{Sized, SoundFacts}
use Rattle.theorems.proofs.Demand1.{call-statuses}
use Rattle.theorems.proofs.KeptQueues.{at_here, at_both}
use Rattle.theorems.proofs.SoundCall.{call-sound}
use Rattle.theorems.proofs.SoundTick.{Below, below-range, tick_task-sound}
use Rattle.specification.specs.Create
use Rattle.specification.specs.Ident
use Rattle.specification.specs.Delete
use Rattle.specification.specs.Submit
use Rattle.specification.specs.Broadcast
use Rattle.specification.specs.Receive
use Rattle.specification.specs.GetNumberPending
use Rattle.specification.specs.Flush
use Rattle.specification.specs.Tick

-- ---- Generations never fall

Grows : State → State → Type 0
Grows s s' = (i : ℕ) → i < slot_count → (queue_at s i).generation ≤ (queue_at s' i).generation

same-queues : (s s' : State) → s'.queues ≡ s.queues → Grows s s'
unfolding Grows
same-queues s s' e i h = rw e (le_refl _)

-- one queue changed, with a generation that is no lower
one-queue : (s s' : State) → Sized s → (slot : ℕ) (F : Queue → Queue) → ((q : Queue) → q.generation ≤ (F q).generation)
    → s'.queues ≡ map_with_index (at_index slot F) s.queues → Grows s s'
unfolding Grows
one-queue s s' z slot F up e i h =
    rw (e, at-mapped (at_index slot F) s.queues i (free_queue 0) (free_queue 0) (omega (arith, z.queues)))
    (at_both (λ _ q. (queue_at s i).generation ≤ q.generation) slot F i (queue_at s i) (λ _. up (queue_at s i)) (λ _. le_refl _))

either-grows : (s : State) (b : Bool) (r r' : State) → Grows s r → Grows s r' → Grows s (if b then r else r')
either-grows s true r r' h k = h
either-grows s false r r' h k = k

leave-grows : (s : State) → Sized s → (t slot rank : ℕ) (f : Task → Task) → Grows s (leave s t slot rank f)
unfolding leave
leave-grows s z t slot rank f = one-queue s _ z slot _ (λ q. le_refl _) refl

tick_task-grows : (s : State) → Sized s → (t : ℕ) → Grows s (tick_task s t)
unfolding tick_task
tick_task-grows s z t =
    either-grows s (expires (task_at s t)) _ _ (leave-grows s z t _ _ _)
    (either-grows s (is_timed (task_at s t)) _ s (same-queues s _ refl) (same-queues s s refl))

tick_tasks-grows : (s : State) (ts : List ℕ) → SoundFacts s → Below task_count ts → Grows s (tick_tasks s ts)
unfolding tick_tasks Grows
tick_tasks-grows s [] g b i h = le_refl _
tick_tasks-grows s (t ∷ ts) g b i h =
    le_trans (tick_task-grows s g.sized t i h) (tick_tasks-grows (tick_task s t) ts (tick_task-sound s g t b.0) b.1 i h)

module _ (s : State) (g : SoundFacts s) where
  abbrev z : Sized s
  z = g.sized

  either_way : (b : Bool) (o o' : Outcome State) → Grows s o.after → Grows s o'.after → Grows s (if b then o else o').after
  either_way true o o' h k = h
  either_way false o o' h k = k

  operation-grows : (caller slot : ℕ) (o : Operation) → Grows s (operation_effect s caller slot o).after
  unfolding operation_effect Delete.effect Submit.effect Submit.delivered Submit.enqueued leave Broadcast.effect Receive.effect Receive.received Receive.waiting GetNumberPending.effect Flush.effect
  operation-grows caller slot delete = one-queue s _ z slot _ (λ q. le_refl _) refl
  operation-grows caller slot (send message) =
      either_way (has_waiter s slot) _ _ (one-queue s _ z slot _ (λ q. le_refl _) refl) (one-queue s _ z slot _ (λ q. le_refl _) refl)
  operation-grows caller slot (urgent message) =
      either_way (has_waiter s slot) _ _ (one-queue s _ z slot _ (λ q. le_refl _) refl) (one-queue s _ z slot _ (λ q. le_refl _) refl)
  operation-grows caller slot (broadcast message) = one-queue s _ z slot _ (λ q. le_refl _) refl
  operation-grows caller slot (receive option ticks) =
      either_way (has_message s slot) _ _ (one-queue s _ z slot _ (λ q. le_refl _) refl) (one-queue s _ z slot _ (λ q. le_refl _) refl)
  operation-grows caller slot get_number_pending = same-queues s s refl
  operation-grows caller slot flush = one-queue s _ z slot _ (λ q. le_refl _) refl

  effect-grows : (c : Call) → Grows s (effect s c).after
  unfolding effect Create.effect Ident.effect Tick.effect
  effect-grows (call caller (create name limit max_size attributes)) = one-queue s _ z _ _ (λ q. omega arith) refl
  effect-grows (call caller (ident name share)) = same-queues s s refl
  effect-grows (call caller (on_queue id o)) = operation-grows caller (slot_of id) o
  effect-grows tick = tick_tasks-grows s (numbers_from 0 task_count) g (below-range task_count 0 task_count (omega arith))

  call-grows : (c : Call) → Grows s (call_on_records s c).after
  unfolding call_on_records
  call-grows c = refused-or (λ o. Grows s o.after) s _ _ (λ n. same-queues s s refl) (λ n. effect-grows c)

-- ---- Ids above the generations

-- every id is above its slot's generation
pub Newer : State → List ℕ → Type 0
Newer s [] = Unit {0}
Newer s (n ∷ ns) = ((queue_at s (slot_of n)).generation < generation_of n) × Newer s ns

newer-grown : (s s' : State) → Grows s s' → (ns : List ℕ) → Newer s' ns → Newer s ns
unfolding Newer Grows
newer-grown s s' up [] k = tt
newer-grown s s' up (n ∷ ns) k =
    (let h = up (slot_of n) (omega arith) in let l = k.0 in omega arith, newer-grown s s' up ns k.1)

-- an id whose slot has its generation is not among them
not-newer : (s : State) (n : ℕ) → generation_of n ≡ (queue_at s (slot_of n)).generation → (ns : List ℕ) → Newer s ns → member n ns ≡ false
unfolding Newer member
not-newer s n e [] k = refl
not-newer s n e (m ∷ ns) k =
    rw (ne_eqb n m (λ z. let h : (queue_at s (slot_of n)).generation < generation_of n = subst (λ (j : ℕ). (queue_at s (slot_of j)).generation < generation_of j) (sym z) k.0 in omega arith))
    (not-newer s n e ns k.1)

-- what an event adds to the ids
adds : Call → Answer → List ℕ → List ℕ
adds c a ns = if is_create c && eqb a.status SUCCESSFUL then a.value ∷ ns else ns

-- An outcome of a call: nothing is issued, or the id of a slot whose generation it raised.
Issues : State → Call → Outcome State → Type 0
Issues s c o = (ns : List ℕ) → Newer o.after ns → distinct ns ≡ true → (distinct (adds c o.answer ns) ≡ true) × Newer s (adds c o.answer ns)

none-issued : (s : State) (c : Call) (o : Outcome State) → Grows s o.after → is_create c && eqb o.answer.status SUCCESSFUL ≡ false → Issues s c o
unfolding Issues adds
none-issued s c o up e ns k d = rw e (d, newer-grown s o.after up ns k)

-- the slot and the generation of an id
id-slot : (generation slot : ℕ) → slot < slot_count → slot_of (id_of generation slot) ≡ slot
unfolding id_of
id-slot generation slot h = omega arith

id-generation : (generation slot : ℕ) → slot < slot_count → generation_of (id_of generation slot) ≡ generation
unfolding id_of
id-generation generation slot h = omega arith

module _ (s : State) (g : SoundFacts s) where
  created : (slot name limit max_size attributes caller : ℕ) → slot < slot_count
      → Issues s (call caller (create name limit max_size attributes)) (Create.effect s slot name limit max_size attributes)
  unfolding Issues adds is_create Create.effect distinct Newer
  created slot name limit max_size attributes caller h ns k d =
      (and (ap not (not-newer s' id here ns k)) d, (above, newer-grown s s' up ns k))
    where
      new : Queue → Queue
      new = Create.new_queue name limit max_size attributes

      s' : State
      s' = record { queues = map_with_index (at_index slot new) s.queues; pool = s.pool; tasks = s.tasks }

      id : ℕ
      id = id_of (suc (queue_at s slot).generation) slot

      in-slot : slot_of id ≡ slot
      in-slot = id-slot (suc (queue_at s slot).generation) slot h

      raised : generation_of id ≡ suc (queue_at s slot).generation
      raised = id-generation (suc (queue_at s slot).generation) slot h

      up : Grows s s'
      up = one-queue s s' g.sized slot new (λ q. omega arith) refl

      here : generation_of id ≡ (queue_at s' (slot_of id)).generation
      here =
          raised ∙ sym (ap (λ (k : ℕ). (queue_at s' k).generation) in-slot
          ∙ ap (λ (q : Queue). q.generation)
          (at-mapped (at_index slot new) s.queues slot (free_queue 0) (free_queue 0) (omega (arith, g.sized.queues)) ∙ at_here slot new (queue_at s slot)))

      above : (queue_at s (slot_of id)).generation < generation_of id
      above = let e = ap (λ (k : ℕ). (queue_at s k).generation) in-slot in omega (arith, raised)

  -- every call issues at most one id, and that a new one
  create-issues : (caller name limit max_size attributes : ℕ) → Issues s (call caller (create name limit max_size attributes)) (call_on_records s (call caller (create name limit max_size attributes)))
  unfolding call_on_records effect Accepted directive_refusals is_create
  create-issues caller name limit max_size attributes =
      refused-with (Issues s c) s (common_refusals s c ++ own_refusals s c) (effect s c) (call-statuses s c)
      (λ n h. none-issued s c (refuse s n) (same-queues s s refl) (refused n h.0)) issued
    where
      c : Call
      c = call caller (create name limit max_size attributes)

      refused : (n : ℕ) → 1 ≤ n → eqb n SUCCESSFUL ≡ false
      refused n h = ne_eqb n SUCCESSFUL (λ e. omega arith)

      issued : None (common_refusals s c ++ own_refusals s c) → Issues s c (effect s c)
      issued n =
          created (Create.free_slot s (share_of_task caller)) name limit max_size attributes caller
          (creatable s (share_of_task caller) name limit max_size attributes (accepted-facts s c n).directive).slot_below

  call-issues : (c : Call) → Issues s c (call_on_records s c)
  unfolding is_create
  call-issues (call caller (create name limit max_size attributes)) = create-issues caller name limit max_size attributes
  call-issues (call caller (ident name share)) = none-issued s _ _ (call-grows s g _) refl
  call-issues (call caller (on_queue id o)) = none-issued s _ _ (call-grows s g _) refl
  call-issues tick = none-issued s tick _ (call-grows s g tick) refl

-- ---- A run

pub ids-distinct : (calls : List Call) (s : State) → SoundFacts s
    → (distinct (issued (events_on_records s calls)) ≡ true) × Newer s (issued (events_on_records s calls))
unfolding events_on_records issued distinct Newer Issues adds
ids-distinct [] s g = (refl, tt)
ids-distinct (c ∷ cs) s g =
    let (d, n) = ids-distinct cs (call_on_records s c).after (call-sound s g c) in
    call-issues s g c (issued (events_on_records (call_on_records s c).after cs)) n d
