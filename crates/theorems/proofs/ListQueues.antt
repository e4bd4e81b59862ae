-- What each operation on a queue, create and ident do to the queues as lists. Assumes nothing.
use Prim.Native.Nat.{ℕ, ◌≤◌, ◌<◌}
use native.Mathlib.Nat.{le_refl}
use native.Mathlib.Omega.{arith}
use mathlib.Core.Path.{◌≡◌, refl, sym}
use mathlib.Core.Logic.{⊎_elim}
use mathlib.Core.List.{[], ◌∷◌, ◌++◌}
use lib.ListN.{length, drop_of_length-le}
use lib.Seq.{take_all}
use Rattle.records.specs.Layout.{slot_of, slot_count, buffer_count, capacity}
use Rattle.records.specs.Records.{State, queue_at, buffer_at, free_queue}
use Rattle.specification.specs.Answer.{Outcome}
use Rattle.specification.specs.Call.{Operation, delete, send, urgent, broadcast, receive, get_number_pending, flush, on_queue, call}
use Rattle.specification.specs.Step.{operation_refusals, operation_effect, effect}
use Rattle.theorems.specs.QueueLists.{contents, on_list, task_after, queue_after, OperationOnLists, CreateOnTables, IdentOnTables}
use Rattle.specification.proofs.Refused.{None}
use Rattle.specification.proofs.Rules.{Free, queue-rules}
use Rattle.specification.proofs.Accepted.{ReadyCaller, Accepted, Creatable, on-queue}
use Rattle.specification.proofs.SoundFacts.{Sized, SoundFacts}
use Rattle.theorems.proofs.SoundSubmit.{slot-below, submitted}
use Rattle.theorems.proofs.SoundCreate.{slot-found, create-sound}
use Rattle.theorems.proofs.SoundCall.{effect-sound}
use Rattle.theorems.proofs.ListContents.{kept-messages, kept-waiters, both-lists, first-lowest, count-messages}
use Rattle.theorems.proofs.ListClear.{broadcast-lists, delete-lists, flush-lists, pending-lists}
use Rattle.theorems.proofs.ListSubmit.{submit-lists}
use Rattle.theorems.proofs.ListReceive.{receive-lists}
use Rattle.specification.specs.Create
use Rattle.specification.specs.Ident
use Rattle.theorems.proofs.CountChange
use Rattle.theorems.proofs.CountChange.{QueueChanged}

-- what an operation does, by the definitions on lists
abbrev pub OperationFacts : State → (caller slot : ℕ) → Operation → Outcome State → Type 0
OperationFacts s caller slot o r =
    OperationOnLists s slot r (on_list s caller slot o (contents s slot)) (task_after caller o (contents s slot)) (queue_after o)

-- a buffer has 120 bytes
abbrev pub WholeBuffers : State → Type 0
WholeBuffers s = (b : ℕ) → b < buffer_count → length (buffer_at s b).bytes ≡ capacity

module _ {s : State} (g : SoundFacts s) where
  effect-lists : (caller slot : ℕ) (o : Operation) → slot < slot_count → ReadyCaller s caller → None (operation_refusals s caller slot o) → WholeBuffers s
      → Sized (operation_effect s caller slot o).after → OperationFacts s caller slot o (operation_effect s caller slot o)
  unfolding operation_effect operation_refusals on_list task_after queue_after
  effect-lists caller slot delete h r n long z' = delete-lists g slot h z'
  effect-lists caller slot (send message) h r n long z' =
      let le : length (contents s slot).messages ≤ (queue_at s slot).pending = omega (arith, count-messages g slot h) in
      submit-lists g slot (queue_at s slot).pending message h (submitted s slot message n) (le_refl _) (λ ms. ms ++ (message ∷ []))
      (rw (take_all (queue_at s slot).pending (contents s slot).messages le, drop_of_length-le (contents s slot).messages le)) z'
  effect-lists caller slot (urgent message) h r n long z' =
      submit-lists g slot 0 message h (submitted s slot message n) (omega arith) (λ ms. message ∷ ms) refl z'
  effect-lists caller slot (broadcast message) h r n long z' = broadcast-lists g slot h message z'
  effect-lists caller slot (receive option ticks) h r n long z' =
      receive-lists g caller slot option ticks r.below r.ready h long z'
  effect-lists caller slot get_number_pending h r n long z' = pending-lists g slot h
  effect-lists caller slot flush h r n long z' = flush-lists g slot h z'

  sized-after : (caller id : ℕ) (o : Operation) → Accepted s (call caller (on_queue id o)) → Sized (operation_effect s caller (slot_of id) o).after
  unfolding effect
  sized-after caller id o a = (effect-sound s g (call caller (on_queue id o)) a).sized

  -- every operation that is not refused
  pub operation-lists : (caller id : ℕ) (o : Operation) → WholeBuffers s → Accepted s (call caller (on_queue id o))
      → OperationFacts s caller (slot_of id) o (operation_effect s caller (slot_of id) o)
  unfolding Accepted
  operation-lists caller id o long a =
      effect-lists caller (slot_of id) o (slot-below id) a.caller (on-queue s caller id o a.directive).operation long (sized-after caller id o a)

  -- a queue that is created has no message and no waiter, as its free slot had none
  pub create-lists : (share name limit max_size attributes : ℕ) → Creatable s share name limit max_size attributes
      → CreateOnTables s share name limit max_size attributes (Create.effect s (Create.free_slot s share) name limit max_size attributes)
  unfolding Create.effect Create.free_slot
  create-lists share name limit max_size attributes c =
      let lt : Create.free_slot s share < slot_count = c.slot_below in
      let was : Free (queue_at s (Create.free_slot s share)) =
      ⊎_elim (λ l. absurd (let a = l.live in let b = (slot-found s g.sized share lt).0 in omega arith)) (λ f. f) (queue-rules _ (g.queue _ lt)) in
      let z' = (create-sound s g share name limit max_size attributes c).sized in
      let change : QueueChanged s _ _ (Create.new_queue name limit max_size attributes) = record { facts = g; sized = z'; inside = lt; queues = refl } in
      record {
        slot = Create.free_slot s share;
        lowest = first-lowest _ s.queues (free_queue 0) (omega (arith, g.sized.queues));
        answer = refl;
        queues = CountChange.after change;
        pool = refl;
        tasks = refl;
        lists =
            λ i i<.
            both-lists (kept-messages change refl (sym was.pending) i i<) (kept-waiters change refl (sym was.waiters) i i<);
      }

  pub ident-lists : (caller name share : ℕ) → Ident.named s caller name share < slot_count
      → IdentOnTables s caller name share (Ident.effect s (Ident.named s caller name share)).answer
  unfolding Ident.effect Ident.named
  ident-lists caller name share lt =
      record {
        slot = Ident.named s caller name share;
        lowest = first-lowest _ s.queues (free_queue 0) (omega (arith, g.sized.queues));
        answer = refl;
      }
