-- A call is refused by the tests 16, 10 and 11, or does what its directive does. Assumes nothing.
use Prim.Native.Nat.{ℕ}
use mathlib.Core.Path.{◌≡◌, refl, sym, ◌∙◌}
use mathlib.Core.List.{List, [], ◌∷◌, ◌++◌}
use borrow.Author.Tests.{not-false}
use Rattle.ranks.specs.Lists.{all_true}
use Rattle.records.specs.Bytes.{Tables, decode}
use Rattle.records.specs.Status.{status_number}
use Rattle.records.specs.declared.status.RefusalStatus.{RefusalStatus}
use Rattle.records.proofs.Statuses.{not-zero}
use Rattle.specification.specs.Answer.{Outcome, Refusal, refuse_if_any, first_status}
use Rattle.specification.specs.Call.{Directive, call, tick}
use Rattle.specification.specs.Step.{common_refusals, own_refusals, refusals, step, effect, encoded}
use Rattle.specification.proofs.Refused.{None, none-holds, refused-first}
use Rattle.common_refusals.proofs.FirstTests.{first-of-both, tables_shaped, tables_sound}
use Rattle.common_refusals.specs.Tested.{Callable, Tested, CallTested, table_refusals, call_refusals}
use Rattle.manager.specs.Outcomes.{answer_of, outcome_of, accepted}
use Rattle.std.specs.Prelude.{Ok, Err}

-- the code's status is that of the first refusal
refused : (t : Tables) (o : Outcome Tables) (rs : List Refusal) (s : RefusalStatus) → status_number s ≡ first_status rs → outcome_of (Err s) t ≡ refuse_if_any t rs o
unfolding answer_of
refused t o rs s e = refused-first t rs o (status_number s) e (not-zero s)

-- where none of the first list holds, the second decides
second-decides : (t : Tables) (rs rs' : List Refusal) (o : Outcome Tables) → None rs → refuse_if_any t (rs ++ rs') o ≡ refuse_if_any t rs' o
unfolding refuse_if_any
second-decides t [] rs' o none = refl
second-decides t (r ∷ rs) rs' o none = rw none.0 (second-decides t rs rs' o none.1)

module _ (t : Tables) (caller : ℕ) where
  -- a call that they refuse
  pub refused_call : (directive : Directive) (s : RefusalStatus) → CallTested t caller (Err s) → outcome_of (Err s) t ≡ step t (call caller directive)
  unfolding step refusals common_refusals
  refused_call directive s e =
      refused t _ (call_refusals t caller ++ own_refusals (decode t) (call caller directive)) s
      (e ∙ first-of-both (call_refusals t caller) (own_refusals (decode t) (call caller directive)) (λ z. not-zero s (e ∙ z)))

  none-of-them : CallTested t caller (Ok tt) → None (call_refusals t caller)
  unfolding all_true
  none-of-them passed = none-holds (call_refusals t caller) refl passed

  -- a caller that they let pass
  pub callable : CallTested t caller (Ok tt) → Callable t caller
  callable passed =
      let (lengths, (is_sound, (ready, _))) = none-of-them passed in
      record { lengths = not-false _ lengths; is_sound = not-false _ is_sound; ready = ready }

  -- its call
  pub accepted_call : (directive : Directive) → CallTested t caller (Ok tt) → accepted t caller directive ≡ step t (call caller directive)
  unfolding step refusals common_refusals own_refusals
  accepted_call directive passed = sym (second-decides t (call_refusals t caller) _ _ (none-of-them passed))

-- ---- The tests of the tables

module _ (t : Tables) where
  -- "A tick has no caller."
  pub tick-refused : (s : RefusalStatus) → Tested t (Err s) → outcome_of (Err s) t ≡ step t tick
  unfolding step refusals common_refusals own_refusals
  tick-refused s e = refused t _ (table_refusals t) s e

  pub tick_accepted : Tested t (Ok tt) → encoded (effect (decode t) tick) ≡ step t tick
  unfolding step refusals common_refusals own_refusals refuse_if_any
  tick_accepted passed = rw (tables_shaped t passed, tables_sound t passed)

-- What a call does, by what the tests 16, 10 and 11 say of it.
pub ruleset tested_calls = (refused_call, callable, accepted_call)

-- What a tick does, by what the tests 16 and 10 say of it.
pub ruleset tested_ticks = (tick-refused, tables_shaped, tables_sound, tick_accepted)
