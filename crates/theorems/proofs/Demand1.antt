-- Demand 1: each refusal comes exactly where the documents say and changes nothing. Assumes nothing.
use Prim.Native.Nat.{ℕ, ◌≤◌, ◌<◌}
use native.Mathlib.Omega.{arith}
use mathlib.Core.Path.{◌≡◌, refl, sym, ap, ◌∙◌, subst}
use mathlib.Core.Bool.{Bool, true, false, not, true≢false, false≢true}
use mathlib.Core.Logic.{inl, inr, ⊎_elim}
use mathlib.Core.List.{List, [], ◌∷◌, ◌++◌, map}
use Rattle.std.specs.Prelude.{if◌then◌else◌}
use Rattle.ranks.specs.Lists.{all_true}
use Rattle.records.specs.Layout.{slot_of}
use Rattle.records.specs.Records.{State}
use Rattle.records.specs.Bytes.{Tables, decode, right_lengths}
use Rattle.records.specs.Status.{CORRUPT, BAD-CALLER, BAD-SHAPE, SUCCESSFUL, TIMEOUT, OBJECT-WAS-DELETED, WAITING}
use Rattle.specification.specs.Answer.{Outcome, Refusal, refuse, refuse_if_any}
use Rattle.specification.specs.Call.{Operation, Directive, Call, delete, send, urgent, broadcast, receive, get_number_pending, flush, create, ident, on_queue, call, tick}
use Rattle.specification.specs.Sound.{sound}
use Rattle.specification.specs.Lookup.{has_waiter, has_message}
use Rattle.specification.specs.Step.{bad_caller, common_refusals, operation_refusals, directive_refusals, own_refusals, refusals, operation_effect, effect, encoded, step}
use Rattle.specification.proofs.Refused.{None, Statuses, refused-with, refuses-none}
use Rattle.theorems.specs.SoundTables.{NotRefused}
use Rattle.theorems.specs.Demands.{FirstThatHolds, here, later, Demand1}
use Rattle.specification.specs.Create
use Rattle.specification.specs.Ident
use Rattle.specification.specs.Delete
use Rattle.specification.specs.Submit
use Rattle.specification.specs.Broadcast
use Rattle.specification.specs.Receive
use Rattle.specification.specs.GetNumberPending
use Rattle.specification.specs.Flush
use Rattle.specification.specs.Tick

-- ---- A list of refusals and an effect that is none

module _ {S : Type 0} (s : S) (o : Outcome S) (ok : NotRefused o.answer) where
  to-first : (rs : List Refusal) (n : ℕ) → (n ≡ SUCCESSFUL → ⊥) → (n ≡ WAITING → ⊥) → (refuse_if_any s rs o).answer.status ≡ n → FirstThatHolds n rs
  unfolding refuse_if_any
  to-first [] n a b e = absurd (by ok)
    where
      by : NotRefused o.answer → ⊥
      by (inl z) = a (sym e ∙ z)
      by (inr z) = b (sym e ∙ z)
  to-first (r ∷ rs) n a b e = go r.holds refl e (to-first rs n a b)
    where
      go : (t : Bool) → r.holds ≡ t → (if t then refuse s r.status else refuse_if_any s rs o).answer.status ≡ n
          → ((refuse_if_any s rs o).answer.status ≡ n → FirstThatHolds n rs) → FirstThatHolds n (r ∷ rs)
      go true h e ih = here h e
      go false h e ih = later h (ih e)

  from_first : (rs : List Refusal) (n : ℕ) → FirstThatHolds n rs → refuse_if_any s rs o ≡ refuse s n
  unfolding refuse_if_any
  from_first [] n f = elim f [ ]
  from_first (r ∷ rs) n (here h e) = rw h (ap (refuse s) e)
  from_first (r ∷ rs) n (later h f) = rw h (from_first rs n f)

-- ---- An effect answers 0 or 14

either_way : (b : Bool) (o o' : Outcome State) → NotRefused o.answer → NotRefused o'.answer → NotRefused (if b then o else o').answer
either_way true o o' h k = h
either_way false o o' h k = k

operation-not-refused : (s : State) (caller slot : ℕ) (o : Operation) → NotRefused (operation_effect s caller slot o).answer
unfolding operation_effect Delete.effect Submit.effect Submit.delivered Submit.enqueued Broadcast.effect Receive.effect Receive.received Receive.waiting GetNumberPending.effect Flush.effect
operation-not-refused s caller slot delete = inl refl
operation-not-refused s caller slot (send message) = either_way (has_waiter s slot) _ _ (inl refl) (inl refl)
operation-not-refused s caller slot (urgent message) = either_way (has_waiter s slot) _ _ (inl refl) (inl refl)
operation-not-refused s caller slot (broadcast message) = inl refl
operation-not-refused s caller slot (receive option ticks) = either_way (has_message s slot) _ _ (inl refl) (inr refl)
operation-not-refused s caller slot get_number_pending = inl refl
operation-not-refused s caller slot flush = inl refl

pub effect-not-refused : (s : State) (c : Call) → NotRefused (effect s c).answer
unfolding effect Create.effect Ident.effect Tick.effect
effect-not-refused s (call caller (create name limit max_size attributes)) = inl refl
effect-not-refused s (call caller (ident name share)) = inl refl
effect-not-refused s (call caller (on_queue id o)) = operation-not-refused s caller (slot_of id) o
effect-not-refused s tick = inl refl

-- ---- The statuses of a directive's own refusals

pub first-status : (P : ℕ → Type 0) {n : ℕ} {rs : List Refusal} → Statuses P rs → FirstThatHolds n rs → P n
first-status P p (here h e) = subst P e p.0
first-status P p (later h f) = first-status P p.1 f

-- one of a directive's own
abbrev pub Own : ℕ → Type 0
Own n = (1 ≤ n) × (n ≤ 15) × (n ≡ CORRUPT → ⊥) × (n ≡ BAD-CALLER → ⊥) × (n ≡ WAITING → ⊥) × (n ≡ TIMEOUT → ⊥) × (n ≡ OBJECT-WAS-DELETED → ⊥)

operation-statuses : (s : State) (caller slot : ℕ) (o : Operation) → Statuses Own (operation_refusals s caller slot o)
unfolding operation_refusals Delete.refusals Submit.refusals Broadcast.refusals Receive.refusals Flush.refusals
operation-statuses s caller slot delete = omega arith
operation-statuses s caller slot (send message) = omega arith
operation-statuses s caller slot (urgent message) = omega arith
operation-statuses s caller slot (broadcast message) = omega arith
operation-statuses s caller slot (receive option ticks) = omega arith
operation-statuses s caller slot get_number_pending = tt
operation-statuses s caller slot flush = omega arith

pub own-statuses : (s : State) (c : Call) → Statuses Own (own_refusals s c)
unfolding own_refusals directive_refusals Create.refusals Ident.refusals
own-statuses s (call caller (create name limit max_size attributes)) = omega arith
own-statuses s (call caller (ident name share)) = omega arith
own-statuses s (call caller (on_queue id o)) = (omega arith, operation-statuses s caller (slot_of id) o)
own-statuses s tick = tt

pub weaken : (P Q : ℕ → Type 0) → ((n : ℕ) → P n → Q n) → (rs : List Refusal) → Statuses P rs → Statuses Q rs
weaken P Q h [] p = tt
weaken P Q h (r ∷ rs) p = (h r.status p.0, weaken P Q h rs p.1)

abbrev pub Refuses : ℕ → Type 0
Refuses n = (1 ≤ n) × (n ≤ 16) × (n ≡ WAITING → ⊥)

-- of all refusals of a call on records
pub call-statuses : (s : State) (c : Call) → Statuses Refuses (common_refusals s c ++ own_refusals s c)
unfolding common_refusals
call-statuses s c = go c (weaken Own Refuses (λ n p. (p.0, (let h = p.1 in omega arith), p.4)) (own_refusals s c) (own-statuses s c))
  where
    go : (c : Call) → Statuses Refuses (own_refusals s c) → Statuses Refuses (common_refusals s c ++ own_refusals s c)
    go (call k d) p = (omega arith, (omega arith, p))
    go tick p = (omega arith, p)

-- ---- 0 or 14

abbrev none_holds : List Refusal → Bool
none_holds rs = all_true (map (λ (r : Refusal). not r.holds) rs)

to_none : (rs : List Refusal) → none_holds rs ≡ true → None rs
unfolding all_true
to_none [] e = tt
to_none (r ∷ rs) e = go r.holds refl e (to_none rs)
  where
    go : (b : Bool) → r.holds ≡ b → elim (not b) [ true ↦ none_holds rs | false ↦ false ] ≡ true → (none_holds rs ≡ true → None rs) → None (r ∷ rs)
    go true h e ih = absurd (false≢true e)
    go false h e ih = (h, ih e)

from-none : (rs : List Refusal) → None rs → none_holds rs ≡ true
unfolding all_true
from-none [] n = refl
from-none (r ∷ rs) n = rw n.0 (from-none rs n.1)

module _ (t : Tables) (c : Call) where
  accepted-none : NotRefused (step t c).answer → none_holds (refusals t c) ≡ true
  unfolding step refusals
  accepted-none h =
      from-none (refusals t c)
      (refused-with (λ o. NotRefused o.answer → None (refusals t c)) t (refusals t c) _ (omega arith, call-statuses (decode t) c)
      (λ n q r. absurd (⊎_elim (λ e. let k = q.0 in omega arith) q.2 r)) (λ n r. n) h)

  none-accepted : none_holds (refusals t c) ≡ true → NotRefused (step t c).answer
  unfolding step
  none-accepted e =
      subst (λ (o : Outcome Tables). NotRefused o.answer) (sym (refuses-none t (refusals t c) _ (to_none (refusals t c) e)))
      (effect-not-refused (decode t) c)

-- ---- 16, 10, 11

is_false : (b : Bool) → not b ≡ true → b ≡ false
is_false true e = absurd (false≢true e)
is_false false e = refl

is_true : (b : Bool) → not b ≡ false → b ≡ true
is_true true e = refl
is_true false e = absurd (true≢false e)

-- test 11
abbrev CallerRefused : Tables → Call → Type 0
CallerRefused t (call k d) = bad_caller (decode t) k ≡ true
CallerRefused t tick = ⊥

-- which refusal of a call is the first that holds
pub data Reason (t : Tables) (c : Call) (n : ℕ) : Type 0 where
  shape : n ≡ BAD-SHAPE → right_lengths t ≡ false → Reason t c n
  unsound : n ≡ CORRUPT → right_lengths t ≡ true → sound (decode t) ≡ false → Reason t c n
  caller : n ≡ BAD-CALLER → right_lengths t ≡ true → sound (decode t) ≡ true → CallerRefused t c → Reason t c n
  own : Own n → Reason t c n

reason : (t : Tables) (c : Call) (n : ℕ) → FirstThatHolds n (refusals t c) → Reason t c n
unfolding refusals common_refusals
reason t (call k d) n (here h e) = shape (sym e) (is_false _ h)
reason t (call k d) n (later h (here h' e)) = unsound (sym e) (is_true _ h) (is_false _ h')
reason t (call k d) n (later h (later h' (here h'' e))) = caller (sym e) (is_true _ h) (is_true _ h') h''
reason t (call k d) n (later h (later h' (later h'' f))) = own (first-status Own (own-statuses (decode t) (call k d)) f)
reason t tick n (here h e) = shape (sym e) (is_false _ h)
reason t tick n (later h (here h' e)) = unsound (sym e) (is_true _ h) (is_false _ h')
reason t tick n (later h (later h' f)) = own (first-status Own (own-statuses (decode t) tick) f)

module _ (t : Tables) (c : Call) where
  -- the outcome of a call whose first refusal is known, and the other way round
  pub first-is : (n : ℕ) → FirstThatHolds n (refusals t c) → step t c ≡ refuse t n
  unfolding step
  first-is n f = from_first t (encoded (effect (decode t) c)) (effect-not-refused (decode t) c) (refusals t c) n f

  is-first : (n : ℕ) → (n ≡ SUCCESSFUL → ⊥) → (n ≡ WAITING → ⊥) → (step t c).answer.status ≡ n → FirstThatHolds n (refusals t c)
  unfolding step
  is-first n a b e = to-first t (encoded (effect (decode t) c)) (effect-not-refused (decode t) c) (refusals t c) n a b e

  pub why : (n : ℕ) → (n ≡ SUCCESSFUL → ⊥) → (n ≡ WAITING → ⊥) → (step t c).answer.status ≡ n → Reason t c n
  why n a b e = reason t c n (is-first n a b e)

  status-is : (n : ℕ) → FirstThatHolds n (refusals t c) → (step t c).answer.status ≡ n
  status-is n f = ap (λ (o : Outcome Tables). o.answer.status) (first-is n f)

  shape-first : right_lengths t ≡ false → FirstThatHolds BAD-SHAPE (refusals t c)
  unfolding refusals
  shape-first e = here (ap not e) refl

  pub corrupt-first : right_lengths t ≡ true → sound (decode t) ≡ false → FirstThatHolds CORRUPT (refusals t c)
  unfolding refusals common_refusals
  corrupt-first e f = later (ap not e) (go c)
    where
      go : (c : Call) → FirstThatHolds CORRUPT (common_refusals (decode t) c ++ own_refusals (decode t) c)
      go (call k d) = here (ap not f) refl
      go tick = here (ap not f) refl

caller-first : (t : Tables) (k : ℕ) (d : Directive) → right_lengths t ≡ true → sound (decode t) ≡ true → bad_caller (decode t) k ≡ true
    → FirstThatHolds BAD-CALLER (refusals t (call k d))
unfolding refusals common_refusals
caller-first t k d e f b = later (ap not e) (later (ap not f) (here b refl))

-- ---- Each number is one reason's alone

only-shape : {t : Tables} {c : Call} → Reason t c BAD-SHAPE → right_lengths t ≡ false
only-shape (shape z h) = h
only-shape (unsound z h k) = absurd (omega arith)
only-shape (caller z h k l) = absurd (omega arith)
only-shape (own p) = absurd (let q = p.1 in omega arith)

only-corrupt : {t : Tables} {c : Call} → Reason t c CORRUPT → (right_lengths t ≡ true) × (sound (decode t) ≡ false)
only-corrupt (shape z h) = absurd (omega arith)
only-corrupt (unsound z h k) = (h, k)
only-corrupt (caller z h k l) = absurd (omega arith)
only-corrupt (own p) = absurd (p.2 refl)

only-caller : {t : Tables} {c : Call} → Reason t c BAD-CALLER → (right_lengths t ≡ true) × (sound (decode t) ≡ true) × CallerRefused t c
only-caller (shape z h) = absurd (omega arith)
only-caller (unsound z h k) = absurd (omega arith)
only-caller (caller z h k l) = (h, k, l)
only-caller (own p) = absurd (p.3 refl)

only-own : {t : Tables} {c : Call} (n : ℕ) → n < 10 → Reason t c n → Own n
only-own n h (shape z k) = absurd (omega arith)
only-own n h (unsound z k l) = absurd (omega arith)
only-own n h (caller z k l m) = absurd (omega arith)
only-own n h (own p) = p

pub demand-1 : Demand1
demand-1 =
    record {
      exactly = λ t c n a b. (is-first t c n a b, status-is t c n);
      accepted = λ t c. (accepted-none t c, none-accepted t c);
      refused = λ t c a b. first-is t c _ (is-first t c _ a b refl);
      bad-shape = λ t c. (λ e. only-shape (why t c BAD-SHAPE (λ z. omega arith) (λ z. omega arith) e), λ h. status-is t c BAD-SHAPE (shape-first t c h));
      corrupt =
          λ t c. (λ e. only-corrupt (why t c CORRUPT (λ z. omega arith) (λ z. omega arith) e), λ (h, k). status-is t c CORRUPT (corrupt-first t c h k));
      bad-caller =
          λ t k d.
          (λ e. only-caller (why t (call k d) BAD-CALLER (λ z. omega arith) (λ z. omega arith) e), λ (h, a, b). status-is t (call k d) BAD-CALLER (caller-first t k d h a b));
      tick-has-no-caller = λ t e. (only-caller (why t tick BAD-CALLER (λ z. omega arith) (λ z. omega arith) e)).2;
      only-to-tasks =
          λ t c. (
            λ e. (only-own TIMEOUT (omega arith) (why t c TIMEOUT (λ z. omega arith) (λ z. omega arith) e)).5 refl,
            λ e. (only-own OBJECT-WAS-DELETED (omega arith) (why t c OBJECT-WAS-DELETED (λ z. omega arith) (λ z. omega arith) e)).6 refl,
          );
    }
