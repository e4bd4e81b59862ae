-- What a confined share observes of a run is what it observes of its own calls and the ticks alone. Assumes nothing.
use Prim.Native.Nat.{ℕ, zero, suc, ◌+◌, ◌<◌}
use native.Mathlib.Omega.{arith}
use mathlib.Core.Path.{◌≡◌, refl, sym, ap, ap₂, ◌∙◌}
use mathlib.Core.Bool.{Bool, true, false, ◌||◌}
use mathlib.Core.List.{List, [], ◌∷◌, map}
use lib.Dec.{eqb}
use borrow.Author.Tests.{eq-eqb, ne_eqb}
use Rattle.std.specs.Prelude.{if◌then◌else◌}
use Rattle.ranks.specs.Lists.{all_true, bit, all_zero, numbers_from}
use Rattle.records.specs.Layout.{task_count}
use Rattle.records.specs.Split.{share_of_task}
use Rattle.records.specs.Records.{State}
use Rattle.specification.specs.Answer.{Answer}
use Rattle.specification.specs.Call.{Call, call, tick}
use Rattle.theorems.specs.Noninterference.{is_call_of, is_tick, purge, is_confined, own_bits, Observation, of_call, of_tick, observations, wakes_no_task_of}
use Rattle.ranks.proofs.Lists.{all_cons}
use Rattle.ranks.proofs.Tests.{both}
use Rattle.specification.proofs.OnRecords.{call_on_records, events_on_records, state_after}
use Rattle.theorems.proofs.KeptQueues.{if-at}
use Rattle.theorems.proofs.SoundCall.{call-sound}
use Rattle.theorems.proofs.Equivalent.{Equivalent, equivalent-sym, equivalent-trans, Confined, equivalent-confined}
use Rattle.theorems.proofs.StepConsistency.{own-consistent}
use Rattle.theorems.proofs.LocalRespect.{other-respects}
use Rattle.theorems.proofs.Confinement.{call-confined}
use Rattle.theorems.proofs.UnwindTick.{tick-consistent}

-- ---- The bits of the share's tasks

map_range : (f g : ℕ → ℕ) (i n : ℕ) → ((t : ℕ) → t < i + n → f t ≡ g t) → map f (numbers_from i n) ≡ map g (numbers_from i n)
unfolding numbers_from
map_range f g i zero h = refl
map_range f g i (suc n) h = ap₂ (λ (b : ℕ) (l : List ℕ). b ∷ l) (h i (omega arith)) (map_range f g (suc i) n (λ t lt. h t (omega arith)))

same_bits : (x m m' : ℕ) → ((t : ℕ) → t < task_count → share_of_task t ≡ x → bit t m ≡ bit t m') → own_bits x m ≡ own_bits x m'
unfolding own_bits
same_bits x m m' h =
    map_range _ _ 0 task_count
    (λ t lt.
    if-at (λ b. b ≡ (if eqb (share_of_task t) x then bit t m' else 0)) (share_of_task t) x (bit t m) 0
    (λ o. rw (eq-eqb (share_of_task t) x o) (h t (omega arith) o)) (λ n. rw (ne_eqb (share_of_task t) x n)))

all-zero : all_zero (map (λ t. 0) (numbers_from 0 task_count)) ≡ true
unfolding numbers_from all_zero
all-zero = refl

no_bits : (x m : ℕ) → ((t : ℕ) → t < task_count → share_of_task t ≡ x → bit t m ≡ 0) → all_zero (own_bits x m) ≡ true
unfolding own_bits
no_bits x m h =
    ap all_zero
    (map_range _ (λ t. 0) 0 task_count (λ t lt. if-at (λ b. b ≡ 0) (share_of_task t) x (bit t m) 0 (h t (omega arith)) (λ _. refl)))
    ∙ all-zero

-- ---- A run, and the share's own part of it

-- the run of the calls from s, and of those that are left of them from s'
pub record RunFacts (x : ℕ) (s s' : State) (calls : List Call) : Type 0 where
  pub observed : observations x (events_on_records s calls) ≡ observations x (events_on_records s' (purge x calls))
  pub wakes-none : all_true (map (wakes_no_task_of x) (events_on_records s calls)) ≡ true
  pub after : Equivalent x (state_after s calls) (state_after s' (purge x calls))

module _ {x : ℕ} {s s' : State} (p : Confined x s) (p' : Confined x s') (e : Equivalent x s s') (c : Call) (cs : List Call) where
  -- a call of x is answered alike
  own-step : is_call_of x c ≡ true → is_confined x c ≡ true → RunFacts x (call_on_records s c).after (call_on_records s' c).after cs → RunFacts x s s' (c ∷ cs)
  unfolding observations purge wakes_no_task_of events_on_records state_after all_true
  own-step o k ih =
      record {
        observed = rw (o, o) (ap₂ (λ (a : Answer) (l : List Observation). of_call a ∷ l) (own-consistent p p' e c o k).answer ih.observed);
        wakes-none = rw o ih.wakes-none;
        after = rw o ih.after;
      }

  -- a call that is neither x's nor a tick is not observed
  other_step : is_call_of x c ≡ false → is_tick c ≡ false → RunFacts x (call_on_records s c).after s' cs → RunFacts x s s' (c ∷ cs)
  unfolding observations purge wakes_no_task_of events_on_records state_after all_true
  other_step o k ih =
      record {
        observed = rw (o, k) ih.observed;
        wakes-none = rw (o, k, no_bits x _ (other-respects p c o k).wakes-none) ih.wakes-none;
        after = rw (o, k) ih.after;
      }

pub runs : (x : ℕ) (calls : List Call) (s s' : State) → Confined x s → Confined x s' → Equivalent x s s'
    → all_true (map (is_confined x) (purge x calls)) ≡ true → RunFacts x s s' calls
unfolding is_call_of is_tick observations purge is_confined wakes_no_task_of events_on_records state_after all_true
runs x [] s s' p p' e k = record { observed = refl; wakes-none = refl; after = e }
runs x (tick ∷ cs) s s' p p' e k =
    let t = tick-consistent p p' e in
    let ih = runs x cs _ _ (call-confined p tick refl) (call-confined p' tick refl) t.after k in
    record {
      observed =
          ap₂ (λ (o : Observation) (l : List Observation). o ∷ l)
          (ap₂ (λ (n : ℕ) (bits : List ℕ). of_tick n bits) t.status (same_bits x _ _ t.bits)) ih.observed;
      wakes-none = ih.wakes-none;
      after = ih.after;
    }
runs x (call caller directive ∷ cs) s s' p p' e k = go (is_call_of x c) refl k (runs x cs)
  where
    c : Call
    c = call caller directive

    go : (b : Bool) → is_call_of x c ≡ b → all_true (map (is_confined x) (if b || false then c ∷ purge x cs else purge x cs)) ≡ true
        → ((t t' : State) → Confined x t → Confined x t' → Equivalent x t t' → all_true (map (is_confined x) (purge x cs)) ≡ true → RunFacts x t t' cs)
        → RunFacts x s s' (c ∷ cs)
    go true o k rest =
        let (now, later) = both _ _ (sym (all_cons (is_confined x c) (map (is_confined x) (purge x cs))) ∙ k) in
        own-step p p' e c cs o now (rest _ _ (call-confined p c now) (call-confined p' c now) (own-consistent p p' e c o now).after later)
    go false o k rest =
        let r = (other-respects p c o refl).after in
        other_step p p' e c cs o refl (rest _ s' (equivalent-confined (call-sound s p.facts c) r p) p' (equivalent-trans (equivalent-sym r) e) k)
