-- States that are equal on the records of a share, and a share that is confined to its own queues. Assumes nothing.
use Prim.Native.Nat.{ℕ, zero, suc, ◌/◌, ◌%◌, ◌<◌}
use native.Mathlib.Omega.{arith}
use mathlib.Core.Path.{◌≡◌, refl, sym, ap, ◌∙◌, subst}
use mathlib.Core.Bool.{Bool, true, false}
use mathlib.Core.Logic.{⊎_elim}
use mathlib.Core.List.{List, [], ◌∷◌}
use lib.Dec.{eqb}
use lib.ListN.{length, get_or}
use borrow.Author.Tests.{eqb-true}
use Rattle.std.specs.Prelude.{if◌then◌else◌}
use Rattle.ranks.specs.Lists.{map_with_index, bit, mask}
use Rattle.ranks.specs.Position.{Position}
use Rattle.records.specs.Layout.{slot_count, buffer_count, task_count}
use Rattle.records.specs.Split.{share_of_slot, share_of_buffer, share_of_task}
use Rattle.records.specs.Records.{Queue, Task, State, queue_at, buffer_at, task_at, free_queue, free_buffer, fresh_task}
use Rattle.specification.specs.Answer.{Outcome, Refusal, refuse, refuse_if_any}
use Rattle.ranks.proofs.Lists.{at-mapped, mapped-cong, bit_mask, one}
use Rattle.ranks.proofs.Tests.{or, same?}
use Rattle.specification.proofs.Rules.{Waiting, buffer-rules, task-rules}
use Rattle.specification.proofs.SoundFacts.{Sized, SoundFacts}
use Rattle.specification.proofs.Refused.{None}

-- ---- One table of N records; `share` says whose a record is

-- equal at the records of share x
abbrev pub SameAt : {A : Type 0} → (ℕ → ℕ) → ℕ → ℕ → A → List A → List A → Type 0
SameAt share x N d l l' = (i : ℕ) → i < N → share i ≡ x → get_or l i d ≡ get_or l' i d

module _ {A : Type 0} (share : ℕ → ℕ) (x N : ℕ) (d : A) where
  -- the same is done to both
  pub same-mapped : (F : ℕ → A → A) (l l' : List A) → length l ≡ N → length l' ≡ N → SameAt share x N d l l'
      → SameAt share x N d (map_with_index F l) (map_with_index F l')
  same-mapped F l l' n n' e i h o = at-mapped F l i d d (omega arith) ∙ ap (F i) (e i h o) ∙ sym (at-mapped F l' i d d (omega arith))

  -- nothing is done to the records of x
  pub still-mapped : (F : ℕ → A → A) (l : List A) → length l ≡ N → ((i : ℕ) → i < N → share i ≡ x → F i (get_or l i d) ≡ get_or l i d)
      → SameAt share x N d l (map_with_index F l)
  still-mapped F l n e i h o = sym (at-mapped F l i d d (omega arith) ∙ e i h o)

  -- tests of every record that come out alike at the records of x and at the others
  pub like-mapped : {B : Type 0} (b : B) (F : ℕ → A → B) (l l' : List A) → length l ≡ N → length l' ≡ N → SameAt share x N d l l'
      → ((i : ℕ) → i < N → (share i ≡ x → ⊥) → F i (get_or l i d) ≡ F i (get_or l' i d)) → map_with_index F l ≡ map_with_index F l'
  like-mapped b F l l' n n' e other =
      mapped-cong F F l l' d d b (n ∙ sym n')
      (λ i h. let lt : i < N = omega arith in ⊎_elim (λ o. ap (F i) (e i lt o)) (λ o. other i lt o) (same? (share i) x))

  -- tests that come out as `b` at the records of other shares
  pub like-outside : {B : Type 0} (b : B) (F : ℕ → A → B) (l l' : List A) → length l ≡ N → length l' ≡ N → SameAt share x N d l l'
      → ((i : ℕ) (a : A) → (share i ≡ x → ⊥) → F i a ≡ b) → map_with_index F l ≡ map_with_index F l'
  like-outside b F l l' n n' e off = like-mapped b F l l' n n' e (λ i h ne. off i _ ne ∙ sym (off i _ ne))

-- a record that is in a queue of x is x's, and the other way round
pub record InOwnQueues {A : Type 0} (share : ℕ → ℕ) (position : A → Position) (x N : ℕ) (d : A) (l : List A) : Type 0 where
  pub of-record : (i slot : ℕ) → i < N → (position (get_or l i d)).queue ≡ suc slot → share i ≡ x → share_of_slot slot ≡ x
  pub of-queue : (i slot : ℕ) → i < N → (position (get_or l i d)).queue ≡ suc slot → share_of_slot slot ≡ x → share i ≡ x

module _ {A : Type 0} (share : ℕ → ℕ) (position : A → Position) (x N : ℕ) (d : A) (slot : ℕ) where
  -- tests that come out as `b` outside a queue of x
  pub like-in : share_of_slot slot ≡ x → {B : Type 0} (b : B) (F : ℕ → A → B) (l l' : List A) → length l ≡ N → length l' ≡ N → SameAt share x N d l l'
      → InOwnQueues share position x N d l → InOwnQueues share position x N d l'
      → ((i : ℕ) (a : A) → ((position a).queue ≡ suc slot → ⊥) → F i a ≡ b) → map_with_index F l ≡ map_with_index F l'
  like-in own b F l l' n n' e k k' off =
      like-mapped share x N d b F l l' n n' e
      (λ i h ne. off i _ (λ q. ne (k.of-queue i slot h q own)) ∙ sym (off i _ (λ q. ne (k'.of-queue i slot h q own))))

  -- nothing is done to the records of x outside a queue that is not x's
  pub still-in : (share_of_slot slot ≡ x → ⊥) → (F : ℕ → A → A) (l : List A) → length l ≡ N → InOwnQueues share position x N d l
      → ((i : ℕ) (a : A) → share i ≡ x → ((position a).queue ≡ suc slot → ⊥) → F i a ≡ a) → SameAt share x N d l (map_with_index F l)
  still-in other F l n k off = still-mapped share x N d F l n (λ i h o. off i _ o (λ q. other (k.of-record i slot h q o)))

-- ---- The state

-- the unwinding relation
pub record Equivalent (x : ℕ) (s s' : State) : Type 0 where
  pub queues : SameAt share_of_slot x slot_count (free_queue 0) s.queues s'.queues
  pub pool : SameAt share_of_buffer x buffer_count free_buffer s.pool s'.pool
  pub tasks : SameAt share_of_task x task_count (fresh_task 1) s.tasks s'.tasks

pub equivalent-refl : (x : ℕ) (s : State) → Equivalent x s s
equivalent-refl x s = record { queues = λ i h o. refl; pool = λ i h o. refl; tasks = λ i h o. refl }

pub equivalent-sym : {x : ℕ} {s s' : State} → Equivalent x s s' → Equivalent x s' s
equivalent-sym e =
    record { queues = λ i h o. sym (e.queues i h o); pool = λ i h o. sym (e.pool i h o); tasks = λ i h o. sym (e.tasks i h o) }

pub equivalent-trans : {x : ℕ} {s s' s'' : State} → Equivalent x s s' → Equivalent x s' s'' → Equivalent x s s''
equivalent-trans e f =
    record {
      queues = λ i h o. e.queues i h o ∙ f.queues i h o;
      pool = λ i h o. e.pool i h o ∙ f.pool i h o;
      tasks = λ i h o. e.tasks i h o ∙ f.tasks i h o;
    }

-- no queue of x is OPEN, and no task of x waits in another share's queue
pub record ConfinedRecords (x : ℕ) (s : State) : Type 0 where
  pub closed : (i : ℕ) → i < slot_count → share_of_slot i ≡ x → (queue_at s i).attributes < 2
  pub home : (t : ℕ) → t < task_count → share_of_task t ≡ x → (slot : ℕ) → (task_at s t).position.queue ≡ suc slot → share_of_slot slot ≡ x

-- the confinement invariant, of sound tables
pub record Confined (x : ℕ) (s : State) : Type 0 where
  pub facts : SoundFacts s
  pub confined : ConfinedRecords x s

-- it depends on x's records alone
pub equivalent-confined : {x : ℕ} {s s' : State} → SoundFacts s' → Equivalent x s s' → Confined x s → Confined x s'
equivalent-confined g e p =
    record {
      facts = g;
      confined =
          record {
            closed = λ i h o. subst (λ (q : Queue). q.attributes < 2) (e.queues i h o) (p.confined.closed i h o);
            home = λ t h o slot q. p.confined.home t h o slot (ap (λ (w : Task). w.position.queue) (e.tasks t h o) ∙ q);
          };
    }

module _ {x : ℕ} {s : State} (p : Confined x s) where
  -- an OPEN queue is not x's
  pub not-open : (slot : ℕ) → slot < slot_count → share_of_slot slot ≡ x → eqb ((queue_at s slot).attributes / 2 % 2) 1 ≡ true → ⊥
  not-open slot h o a =
      let b : (queue_at s slot).attributes / 2 % 2 ≡ 1 = eqb-true _ _ a in
      let c = p.confined.closed slot h o in
      omega arith

  -- only x's tasks wait in x's queues
  pub tasks-in-own : InOwnQueues share_of_task (λ w. w.position) x task_count (fresh_task 1) s.tasks
  tasks-in-own =
      record {
        of-record = λ t slot h q o. p.confined.home t h o slot q;
        of-queue = λ t slot h q o. ⊎_elim (λ r. absurd (let e = r.queue in omega arith)) (waits t slot q o) (task-rules s t _ (p.facts.task t h));
      }
    where
      waits : (t slot : ℕ) → (task_at s t).position.queue ≡ suc slot → share_of_slot slot ≡ x → Waiting s t (task_at s t) → share_of_task t ≡ x
      waits t slot q o w =
          let e : w.slot ≡ slot = let a = w.queue in omega arith in
          let o' : share_of_slot w.slot ≡ x = ap share_of_slot e ∙ o in
          ⊎_elim (λ a. sym (eqb-true _ _ a) ∙ o') (λ a. absurd (not-open w.slot w.slot_below o' a)) (or _ _ w.access)

  -- a message is in a buffer of its queue's share
  pub pool-in-own : InOwnQueues share_of_buffer (λ m. m.position) x buffer_count free_buffer s.pool
  pool-in-own = record { of-record = λ b slot h q o. share b slot h q ∙ o; of-queue = λ b slot h q o. sym (share b slot h q) ∙ o }
    where
      share : (b slot : ℕ) → b < buffer_count → (buffer_at s b).position.queue ≡ suc slot → share_of_slot slot ≡ share_of_buffer b
      share b slot h q =
          ⊎_elim (λ u. absurd (let e = u.queue in omega arith))
          (λ u. let e : slot ≡ u.slot = let a = u.queue in omega arith in ap share_of_slot e ∙ u.share) (buffer-rules s b _ (p.facts.buffer b h))

-- ---- Outcomes

-- the same answer, and equivalent states: output and step consistency
pub record Consistent (x : ℕ) (o o' : Outcome State) : Type 0 where
  pub answer : o.answer ≡ o'.answer
  pub after : Equivalent x o.after o'.after

-- the same refusals, and consistent effects where there is none
pub refusals-consistent : {x : ℕ} {s s' : State} → Equivalent x s s' → (rs rs' : List Refusal) (o o' : Outcome State) → rs ≡ rs'
    → (None rs → Consistent x o o') → Consistent x (refuse_if_any s rs o) (refuse_if_any s' rs' o')
unfolding refuse_if_any
refusals-consistent {x} {s} {s'} e rs rs' o o' q = rw (← q) (go rs)
  where
    go : (l : List Refusal) → (None l → Consistent x o o') → Consistent x (refuse_if_any s l o) (refuse_if_any s' l o')
    go [] h = h tt
    go (r ∷ l) h = by r.holds refl (go l)
      where
        by : (b : Bool) → r.holds ≡ b → ((None l → Consistent x o o') → Consistent x (refuse_if_any s l o) (refuse_if_any s' l o'))
            → Consistent x (if b then refuse s r.status else refuse_if_any s l o) (if b then refuse s' r.status else refuse_if_any s' l o')
        by true z ih = record { answer = refl; after = e }
        by false z ih = ih (λ n. h (z, n))

-- x's records are as they were, and none of its tasks is woken: local respect
pub record Respected (x : ℕ) (s : State) (o : Outcome State) : Type 0 where
  pub after : Equivalent x s o.after
  pub wakes-none : (t : ℕ) → t < task_count → share_of_task t ≡ x → bit t o.answer.woken ≡ 0

bit-zero : (t : ℕ) → bit t 0 ≡ 0
unfolding bit
bit-zero zero = refl
bit-zero (suc t) = bit-zero t

-- no task is woken at all
pub wakes-nobody : {x : ℕ} {s : State} (o : Outcome State) → o.answer.woken ≡ 0 → Equivalent x s o.after → Respected x s o
wakes-nobody o w e = record { after = e; wakes-none = λ t h k. ap (bit t) w ∙ bit-zero t }

-- the mask of tests that none of x's tasks passes
pub mask-of-none : (x : ℕ) (F : ℕ → Task → Bool) (s : State) → Sized s → ((t : ℕ) → t < task_count → share_of_task t ≡ x → F t (task_at s t) ≡ false)
    → (t : ℕ) → t < task_count → share_of_task t ≡ x → bit t (mask (map_with_index F s.tasks)) ≡ 0
mask-of-none x F s z e t h o =
    bit_mask (map_with_index F s.tasks) t ∙ ap one (at-mapped F s.tasks t (fresh_task 1) false (omega (arith, z.tasks)) ∙ e t h o)
