-- Demand 2, put together. Assumes nothing.
use Prim.Native.Nat.{ℕ, suc, ◌<◌}
use native.Mathlib.Omega.{arith}
use mathlib.Core.Path.{◌≡◌, refl, sym, ap, ◌∙◌, subst}
use mathlib.Core.Bool.{Bool, true, not, ◌||◌}
use mathlib.Core.Logic.{◌⊎◌, inl, ⊎_elim}
use mathlib.Core.List.{List, [], ◌∷◌, map}
use lib.Dec.{eqb}
use lib.Count.{ones}
use borrow.Author.Tests.{ne_eqb}
use Rattle.ranks.specs.Lists.{all_true, map_with_index}
use Rattle.records.specs.Layout.{buffer_count, slot_count, task_count}
use Rattle.records.specs.Records.{State, queue_at, buffer_at, task_at, fresh}
use Rattle.records.specs.Bytes.{Tables, decode}
use Rattle.records.specs.Status.{CORRUPT, BAD-CALLER, BAD-SHAPE}
use Rattle.specification.specs.Answer.{Answer, Outcome, refuse_if_any, ◌⇒◌}
use Rattle.specification.specs.Call.{Call, broadcast, on_queue, call, tick, arguments_in_range}
use Rattle.specification.specs.Lookup.{waiters_of}
use Rattle.specification.specs.Step.{bad_caller, common_refusals, own_refusals, operation_effect, effect, step}
use Rattle.specification.specs.Run.{Event, run, fresh_tables, good_priorities}
use Rattle.theorems.specs.SoundTables.{SoundTables}
use Rattle.theorems.specs.Demands.{LayoutHolds, issued, distinct, Demand2}
use Rattle.ranks.proofs.ByRank.{counted}
use Rattle.records.proofs.Access.{ones-mask}
use Rattle.records.proofs.EncodeDecode.{encode-decode}
use Rattle.specification.proofs.OnRecords.{call_on_records, events_on_records}
use Rattle.specification.proofs.Refused.{Statuses, refused-with, refused-or}
use Rattle.specification.proofs.Rules.{queue-rules}
use Rattle.specification.proofs.SoundFacts.{SoundFacts, is-sound, buffers-ranked, tasks-ranked}
use Rattle.theorems.proofs.Demand1.{Own, own-statuses, weaken, effect-not-refused}
use Rattle.theorems.proofs.FieldsInRange.{decoded, encoded-bytes, in-range-sized, in-range-fits}
use Rattle.theorems.proofs.Fresh.{priorities, fresh-sound}
use Rattle.theorems.proofs.Ids.{ids-distinct}
use Rattle.theorems.proofs.Noninterference.{fresh-fits}
use Rattle.theorems.proofs.OnBytes.{decode-encode, RunOnRecords, run-on-records}
use Rattle.theorems.proofs.SoundCall.{call-sound}
use Rattle.theorems.proofs.SoundSteps.{encoded-sound, facts, answer-is, sound-stays}
use Rattle.theorems.proofs.AnswersInRange.{answer-in-range}
use Rattle.theorems.proofs.ListsOnBytes.{queues-as-lists}
use Rattle.specification.specs.Broadcast
use Rattle.specification.specs.Tick

-- ---- The layout

pub layout : LayoutHolds
unfolding fresh_tables
layout =
    record {
      decode-encode = λ s r. decode-encode s (in-range-sized r) (in-range-fits r);
      encode-decode = encode-decode;
      decoded = decoded;
      encoded = encoded-bytes;
      fresh = λ ps e. encoded-sound (fresh ps) (fresh-sound ps (priorities ps e)) (fresh-fits ps e);
    }

-- ---- Messages and waiters

module _ (s : State) (g : SoundFacts s) (i : ℕ) (h : i < slot_count) where
  pub counts-apart : ((queue_at s i).pending ≡ 0) ⊎ ((queue_at s i).waiters ≡ 0)
  counts-apart = ⊎_elim (λ l. l.either) (λ f. inl f.pending) (queue-rules _ (g.queue i h))

  pub records-apart : (b k : ℕ) → b < buffer_count → k < task_count → (buffer_at s b).position.queue ≡ suc i → (task_at s k).position.queue ≡ suc i → ⊥
  records-apart b k hb hk q q' =
      ⊎_elim (λ e. let m = (g.messages i h).below b hb q in omega arith) (λ e. let w = (g.waiters i h).below k hk q' in omega arith) counts-apart

-- ---- The ones in the mask

module _ (t : Tables) (st : SoundTables t) where
  -- the value of a call is the ones in its mask
  Counted : Outcome State → Type 0
  Counted o = o.answer.value ≡ ones o.answer.woken

  pub broadcast-ones : (caller id : ℕ) (message : List ℕ)
      → (step t (call caller (on_queue id (broadcast message)))).answer.value ≡ ones (step t (call caller (on_queue id (broadcast message)))).answer.woken
  unfolding call_on_records Counted effect operation_effect Broadcast.effect ones
  broadcast-ones caller id message =
      subst (λ (a : Answer). a.value ≡ ones a.woken) (sym (answer-is t st (call caller (on_queue id (broadcast message)))))
      (refused-or Counted (decode t) _ _ (λ n. refl) (λ _. sym (ones-mask (waiters_of _ (decode t).tasks))))

  pub tick-ones : (step t tick).answer.value ≡ ones (step t tick).answer.woken
  unfolding call_on_records Counted effect Tick.effect ones
  tick-ones =
      subst (λ (a : Answer). a.value ≡ ones a.woken) (sym (answer-is t st tick))
      (refused-or Counted (decode t) _ _ (λ n. refl) (λ _. sym (ones-mask _)))

-- ---- Runs from fresh tables

-- a status that is neither 10 nor 16
abbrev is_sound_status : ℕ → Bool
is_sound_status n = not (eqb n CORRUPT || eqb n BAD-SHAPE)

abbrev Neither : ℕ → Type 0
Neither n = (n ≡ CORRUPT → ⊥) × (n ≡ BAD-SHAPE → ⊥)

neither : (n : ℕ) → Neither n → is_sound_status n ≡ true
neither n (a, b) = rw (ne_eqb n CORRUPT a, ne_eqb n BAD-SHAPE b)

effect-status : (s : State) (c : Call) → is_sound_status (effect s c).answer.status ≡ true
effect-status s c = neither (effect s c).answer.status (⊎_elim (λ e. omega arith) (λ e. omega arith) (effect-not-refused s c))

own-neither : (s : State) (c : Call) → Statuses Neither (own_refusals s c)
own-neither s c = weaken Own Neither (λ n p. (p.2, λ z. let h = p.1 in omega arith)) (own_refusals s c) (own-statuses s c)

-- a call on sound tables passes test 10, and no later test gives 10 or 16
call-status : (s : State) → SoundFacts s → (c : Call) → is_sound_status (call_on_records s c).answer.status ≡ true
unfolding call_on_records common_refusals refuse_if_any
call-status s g (call caller d) =
    rw (is-sound s g)
    (refused-with (λ o. is_sound_status o.answer.status ≡ true) s ((bad_caller s caller ⇒ BAD-CALLER) ∷ own_refusals s (call caller d)) (effect s (call caller d))
    (omega arith, own-neither s (call caller d)) neither (λ _. effect-status s (call caller d)))
call-status s g tick =
    rw (is-sound s g)
    (refused-with (λ o. is_sound_status o.answer.status ≡ true) s (own_refusals s tick) (effect s tick) (own-neither s tick) neither (λ _. effect-status s tick))

events-status : (calls : List Call) (s : State) → SoundFacts s
    → all_true (map (λ (e : Event). is_sound_status e.answer.status) (events_on_records s calls)) ≡ true
unfolding events_on_records all_true
events-status [] s g = refl
events-status (c ∷ cs) s g = rw (call-status s g c) (events-status cs (call_on_records s c).after (call-sound s g c))

module _ (ps : List ℕ) (calls : List Call) (good : good_priorities ps ≡ true) (args : all_true (map arguments_in_range calls) ≡ true) where
  on : RunOnRecords (fresh ps) calls
  on = run-on-records calls (fresh ps) (fresh-sound ps (priorities ps good)) (fresh-fits ps good) args

  pub run-ids-distinct : distinct (issued (run (fresh_tables ps) calls).events) ≡ true
  unfolding fresh_tables
  run-ids-distinct = ap (λ (es : List Event). distinct (issued es)) on.events ∙ (ids-distinct calls (fresh ps) (fresh-sound ps (priorities ps good))).0

  pub run-never-corrupt : all_true (map (λ (e : Event). is_sound_status e.answer.status) (run (fresh_tables ps) calls).events) ≡ true
  unfolding fresh_tables
  run-never-corrupt =
      ap (λ (es : List Event). all_true (map (λ (e : Event). is_sound_status e.answer.status) es)) on.events
      ∙ events-status calls (fresh ps) (fresh-sound ps (priorities ps good))

-- ---- Put together

pub demand-2 : Demand2
unfolding waiters_of map_with_index
demand-2 =
    record {
      sound-stays = λ t c st args. sound-stays t st c args;
      answers = answer-in-range;
      counts-apart = λ t st i h. counts-apart (decode t) (facts t st) i h;
      records-apart = λ t st i b k h hb hk. records-apart (decode t) (facts t st) i h b k hb hk;
      pending-counts = λ t st i h. counted (buffers-ranked (decode t) (facts t st) i h);
      waiters-count = λ t st i h. counted (tasks-ranked (decode t) (facts t st) i h);
      broadcast-ones = λ t caller id message st. broadcast-ones t st caller id message;
      tick-ones = λ t st. tick-ones t st;
      lists = queues-as-lists;
      ids-distinct = run-ids-distinct;
      never-corrupt = run-never-corrupt;
    }
