-- The queues as lists on byte tables. Assumes nothing.
use Prim.Native.Nat.{ℕ}
use native.Mathlib.Omega.{arith}
use mathlib.Core.Path.{◌≡◌, refl, sym, ap, ◌∙◌, subst}
use mathlib.Core.Bool.{true, not}
use mathlib.Core.Logic.{⊎_elim}
use mathlib.Core.List.{◌++◌}
use Rattle.records.specs.Split.{share_of_task}
use Rattle.records.specs.Layout.{slot_of}
use Rattle.records.specs.Records.{State}
use Rattle.records.specs.Bytes.{Tables, decode, encode}
use Rattle.specification.specs.Answer.{Outcome}
use Rattle.specification.specs.Call.{Operation, Call, create, ident, on_queue, call, tick, arguments_in_range}
use Rattle.specification.specs.Step.{common_refusals, own_refusals, directive_refusals, effect, step}
use Rattle.theorems.specs.SoundTables.{SoundTables, NotRefused}
use Rattle.theorems.specs.QueueLists.{CreateOnTables, IdentOnTables, TickOnLists, outcome_on, QueuesAsLists}
use Rattle.specification.proofs.OnRecords.{call_on_records}
use Rattle.specification.proofs.Refused.{refused-with, refused-or, refuses-none}
use Rattle.specification.proofs.SoundFacts.{SoundFacts, is-sound}
use Rattle.theorems.proofs.Demand1.{call-statuses, Refuses}
use Rattle.specification.proofs.Accepted.{Accepted, accepted-facts, creatable, name-found}
use Rattle.theorems.proofs.SoundSteps.{facts, fits, step_is, answer-is, decoded-after}
use Rattle.theorems.proofs.ListQueues.{OperationFacts, operation-lists, create-lists, ident-lists}
use Rattle.theorems.proofs.ListTests.{tests-lists}
use Rattle.theorems.proofs.ListTick.{tick-lists}
use Rattle.records.proofs.EncodeDecode.{encode-decode}
use Rattle.specification.specs.Ident

-- a call that is not refused has its effect
not-refused : (s : State) (c : Call) → NotRefused (call_on_records s c).answer → Accepted s c × (call_on_records s c ≡ effect s c)
unfolding call_on_records
not-refused s c =
    refused-with (λ o. NotRefused o.answer → Accepted s c × (o ≡ effect s c)) s {Q = Refuses} (common_refusals s c ++ own_refusals s c) (effect s c)
    (call-statuses s c) (λ n q r. absurd (⊎_elim (λ e. let h = q.0 in omega arith) (λ e. q.2 e) r)) (λ n _. (accepted-facts s c n, refl))

module _ (t : Tables) (st : SoundTables t) (c : Call) where
  accepts : NotRefused (step t c).answer → Accepted (decode t) c × (call_on_records (decode t) c ≡ effect (decode t) c)
  accepts r = not-refused (decode t) c (subst NotRefused (answer-is t st c) r)

  outcome-is : arguments_in_range c ≡ true → outcome_on t c ≡ call_on_records (decode t) c
  outcome-is args = λ i. record { answer = answer-is t st c i; after = decoded-after t st c args i }

  -- what is shown of the effect holds of the outcome
  on-records : (P : Outcome State → Type 0) → arguments_in_range c ≡ true → call_on_records (decode t) c ≡ effect (decode t) c → P (effect (decode t) c)
      → P (outcome_on t c)
  on-records P args e p = subst P (sym (outcome-is args ∙ e)) p

operated : (t : Tables) (caller id : ℕ) (o : Operation) → SoundTables t → arguments_in_range (call caller (on_queue id o)) ≡ true
    → NotRefused (step t (call caller (on_queue id o))).answer → OperationFacts (decode t) caller (slot_of id) o (outcome_on t (call caller (on_queue id o)))
unfolding effect
operated t caller id o st args r =
    let (a, e) = accepts t st (call caller (on_queue id o)) r in
    on-records t st (call caller (on_queue id o)) (OperationFacts (decode t) caller (slot_of id) o) args e
    (operation-lists (facts t st) caller id o (λ b h. ((fits t st).pool b h).bytes.long) a)

created : (t : Tables) (caller name limit max_size attributes : ℕ) → SoundTables t
    → arguments_in_range (call caller (create name limit max_size attributes)) ≡ true
    → NotRefused (step t (call caller (create name limit max_size attributes))).answer
    → CreateOnTables (decode t) (share_of_task caller) name limit max_size attributes (outcome_on t (call caller (create name limit max_size attributes)))
unfolding effect Accepted directive_refusals
created t caller name limit max_size attributes st args r =
    let (a, e) = accepts t st (call caller (create name limit max_size attributes)) r in
    on-records t st (call caller (create name limit max_size attributes)) (CreateOnTables (decode t) (share_of_task caller) name limit max_size attributes) args e
    (create-lists (facts t st) (share_of_task caller) name limit max_size attributes (creatable _ _ name limit max_size attributes a.directive))

found : (t : Tables) (caller name share : ℕ) → SoundTables t → NotRefused (step t (call caller (ident name share))).answer
    → IdentOnTables (decode t) caller name share (step t (call caller (ident name share))).answer
unfolding effect Accepted directive_refusals
found t caller name share st r =
    let (a, e) = accepts t st (call caller (ident name share)) r in
    subst (IdentOnTables (decode t) caller name share)
    (sym (answer-is t st (call caller (ident name share)) ∙ ap (λ (o : Outcome State). o.answer) e))
    (ident-lists (facts t st) caller name share (name-found _ caller name share a.directive))

identified : (t : Tables) (caller name share : ℕ) → SoundTables t → (step t (call caller (ident name share))).after ≡ t
unfolding call_on_records effect Ident.effect
identified t caller name share st =
    let c = call caller (ident name share) in
    ap (λ (o : Outcome Tables). o.after) (step_is t st c)
    ∙ ap encode
    (refused-or (λ o. o.after ≡ decode t) (decode t) (common_refusals (decode t) c ++ own_refusals (decode t) c) (effect (decode t) c)
    (λ n. refl) (λ n. refl))
    ∙ encode-decode t st.bytes

-- a tick on sound tables is not refused
tick-runs : (s : State) → SoundFacts s → call_on_records s tick ≡ effect s tick
unfolding call_on_records common_refusals own_refusals
tick-runs s g = refuses-none s _ _ (ap not (is-sound s g), tt)

ticked : (t : Tables) → SoundTables t → TickOnLists (decode t) (outcome_on t tick)
unfolding arguments_in_range effect
ticked t st =
    on-records t st tick (TickOnLists (decode t)) refl (tick-runs (decode t) (facts t st)) (tick-lists (decode t) (facts t st))

pub queues-as-lists : QueuesAsLists
queues-as-lists =
    record {
      tests = λ t st slot h. tests-lists (facts t st) slot h;
      operation = operated;
      create = created;
      ident = found;
      ident-changes-nothing = identified;
      tick = ticked;
    }
