-- The messages and waiters of a queue, and the mask of some of its waiters. Assumes nothing.
use Prim.Native.Nat.{ℕ, zero, suc, ◌<◌}
use native.Mathlib.Nat.{le_of_suc-le-suc, not-suc-le-zero}
use native.Mathlib.Omega.{arith}
use mathlib.Core.Path.{◌≡◌, refl, sym, ap, ap₂, ◌∙◌, subst}
use mathlib.Core.Bool.{Bool, true, false, false≢true}
use mathlib.Core.Logic.{◌⊎◌, inl, inr}
use mathlib.Core.List.{List, [], ◌∷◌, map}
use lib.Dec.{eqb}
use lib.ListN.{length, get_or, length-map}
use borrow.Author.Tests.{eqb-true, eqb-false, eq-eqb}
use Rattle.std.specs.Prelude.{if◌then◌else◌}
use Rattle.ranks.specs.Lists.{map_with_index, find_index, mask, numbers_from}
use Rattle.ranks.specs.Position.{Position, in_queue}
use Rattle.ranks.specs.Steps.{by_rank}
use Rattle.records.specs.Layout.{slot_count, buffer_count, task_count}
use Rattle.records.specs.Changes.{at_index, with_waiters, move_task}
use Rattle.records.specs.Records.{Queue, Buffer, Task, State, queue_at, buffer_at, task_at, free_buffer, fresh_task, message_in}
use Rattle.specification.specs.Lookup.{waiters_of}
use Rattle.theorems.specs.QueueLists.{Contents, contents, member, mask_of, SameButPosition, SameButCounts, Lowest}
use Rattle.ranks.proofs.Lists.{at-mapped, length-mapped, first-true, first-least}
use Rattle.ranks.proofs.Tests.{or, or_left, or_right}
use Rattle.ranks.proofs.Ranks.{Agree}
use Rattle.ranks.proofs.ByRank.{RankedTable, by-rank-listed, length-by-rank, in_list, same-list}
use Rattle.specification.proofs.SoundFacts.{Sized, SoundFacts, buffers-ranked, tasks-ranked}
use Rattle.theorems.proofs.ListSteps.{by_number, map-by-rank}
use Rattle.theorems.proofs.CountChange
use Rattle.theorems.proofs.CountChange.{QueueChanged}

-- ---- Queues that are as they were

module _ {s : State} (g : SoundFacts s) (i : ℕ) (i< : i < slot_count) (s' : State) (z' : Sized s') where
  -- the queue's buffers are where they were, and hold what they held
  pub same-messages : (queue_at s' i).pending ≡ (queue_at s i).pending → ((j : ℕ) → j < buffer_count → Agree i (buffer_at s j).position (buffer_at s' j).position)
      → ((j : ℕ) → j < buffer_count → (buffer_at s j).position.queue ≡ suc i → message_in (buffer_at s' j) ≡ message_in (buffer_at s j))
      → (contents s' i).messages ≡ (contents s i).messages
  unfolding contents
  same-messages e ag held =
      ap (λ (n : ℕ). map (λ b. message_in (buffer_at s' b)) (by_rank (λ (m : Buffer). m.position) i n s'.pool)) e
      ∙ ap (λ (l : List ℕ). map (λ b. message_in (buffer_at s' b)) l) (same-list (buffers-ranked s g i i<) s'.pool z'.pool ag)
      ∙ map-by-rank (buffers-ranked s g i i<) _ _ held

  pub same-waiters : (queue_at s' i).waiters ≡ (queue_at s i).waiters → ((j : ℕ) → j < task_count → Agree i (task_at s j).position (task_at s' j).position)
      → (contents s' i).waiters ≡ (contents s i).waiters
  unfolding contents
  same-waiters e ag =
      ap (λ (n : ℕ). by_rank (λ (w : Task). w.position) i n s'.tasks) e ∙ same-list (tasks-ranked s g i i<) s'.tasks z'.tasks ag

module _ (s s' : State) (i : ℕ) where
  pub same-pool : s'.pool ≡ s.pool → (queue_at s' i).pending ≡ (queue_at s i).pending → (contents s' i).messages ≡ (contents s i).messages
  unfolding contents
  same-pool p e =
      ap₂ (λ (n : ℕ) (bs : List Buffer). map (λ b. message_in (get_or bs b free_buffer)) (by_rank (λ (m : Buffer). m.position) i n bs)) e p

  pub same-tasks : s'.tasks ≡ s.tasks → (queue_at s' i).waiters ≡ (queue_at s i).waiters → (contents s' i).waiters ≡ (contents s i).waiters
  unfolding contents
  same-tasks p e = ap₂ (λ (n : ℕ) (ws : List Task). by_rank (λ (w : Task). w.position) i n ws) e p

-- The counts of one queue change, and the table of messages, or of waiters, does not.
module _ {s s' : State} {slot : ℕ} {h : Queue → Queue} (change : QueueChanged s s' slot h) where
  pub kept-messages : s'.pool ≡ s.pool → (h (queue_at s slot)).pending ≡ (queue_at s slot).pending → (i : ℕ) → i < slot_count
      → (contents s' i).messages ≡ (contents s i).messages
  kept-messages p c i i< =
      same-pool s s' i p (CountChange.of-each change (λ i q. q.pending ≡ (queue_at s i).pending) c (λ i h. refl) i i<)

  pub kept-waiters : s'.tasks ≡ s.tasks → (h (queue_at s slot)).waiters ≡ (queue_at s slot).waiters → (i : ℕ) → i < slot_count
      → (contents s' i).waiters ≡ (contents s i).waiters
  kept-waiters p c i i< =
      same-tasks s s' i p (CountChange.of-each change (λ i q. q.waiters ≡ (queue_at s i).waiters) c (λ i h. refl) i i<)

-- both lists are equal
pub both-lists : {q q' : Contents} → q.messages ≡ q'.messages → q.waiters ≡ q'.waiters → q ≡ q'
both-lists p e = λ k. record { messages = p k; waiters = e k }

-- nothing is in a queue of count 0
pub no-messages : (s : State) (i : ℕ) → (queue_at s i).pending ≡ 0 → (contents s i).messages ≡ []
unfolding contents by_rank numbers_from
no-messages s i e = rw e

pub no-waiters : (s : State) (i : ℕ) → (queue_at s i).waiters ≡ 0 → (contents s i).waiters ≡ []
unfolding contents by_rank numbers_from
no-waiters s i e = rw e

-- ---- Entries of a list

pub in_some : (l : List ℕ) (k d t : ℕ) → k < length l → get_or l k d ≡ t → member t l ≡ true
unfolding member
in_some [] k d t h e = absurd (not-suc-le-zero h)
in_some (x ∷ l) zero d t h e = or_left (member t l) (eq-eqb t x (sym e))
in_some (x ∷ l) (suc k) d t h e = or_right (eqb t x) (in_some l k d t (le_of_suc-le-suc h) e)

some_in : (l : List ℕ) (t : ℕ) → member t l ≡ true → (k : ℕ) × (k < length l) × (get_or l k 0 ≡ t)
unfolding member
some_in [] t e = absurd (false≢true e)
some_in (x ∷ l) t e = go (or (eqb t x) (member t l) e) (some_in l t)
  where
    go : (eqb t x ≡ true) ⊎ (member t l ≡ true) → (member t l ≡ true → (k : ℕ) × (k < length l) × (get_or l k 0 ≡ t))
        → (k : ℕ) × (k < length (x ∷ l)) × (get_or (x ∷ l) k 0 ≡ t)
    go (inl e) ih = (0, omega arith, sym (eqb-true t x e))
    go (inr e) ih = let (k, h, q) = ih e in (suc k, omega arith, q)

-- the first record that passes is the lowest
pub first-lowest : {A : Type 0} (test : ℕ → A → Bool) (xs : List A) (a : A) → find_index test xs < length xs
    → Lowest (λ i. test i (get_or xs i a)) (find_index test xs)
first-lowest test xs a h =
    record {
      passes = sym (at-mapped test xs _ a false h) ∙ first-true (map_with_index test xs) (omega (arith, length-mapped test xs));
      least = λ i lt. go i lt (test i (get_or xs i a)) refl;
    }
  where
    go : (i : ℕ) → i < find_index test xs → (b : Bool) → test i (get_or xs i a) ≡ b → b ≡ false
    go i lt true e = absurd (let le = first-least (map_with_index test xs) i (at-mapped test xs i a false (omega arith) ∙ e) in omega arith)
    go i lt false e = refl

-- the entries of a queue's list are the records in the queue
pub in-by-rank : {A : Type 0} {position : A → Position} {a : A} {N slot n : ℕ} {xs : List A} → RankedTable position a N slot n xs → (t : ℕ) → t < N
    → in_queue slot (position (get_or xs t a)) ≡ member t (by_rank position slot n xs)
in-by-rank {A} {position} {a} {N} {slot} {n} {xs} table t h = go (in_queue slot (position (get_or xs t a))) (member t (by_rank position slot n xs)) refl refl
  where
    go : (b c : Bool) → in_queue slot (position (get_or xs t a)) ≡ b → member t (by_rank position slot n xs) ≡ c → b ≡ c
    go true true e f = refl
    go false false e f = refl
    go true false e f =
        let (k, lt, q) = in_list table 0 t h (eqb-true _ _ e) in
        sym (in_some (by_rank position slot n xs) k 0 t (omega (arith, length-by-rank table)) q) ∙ f
    go false true e f =
        let (k, lt, q) = some_in (by_rank position slot n xs) t f in
        let stands = (by-rank-listed table).entry k 0 (omega (arith, length-by-rank table)) in
        absurd (eqb-false _ _ e (subst (λ (j : ℕ). (position (get_or xs j a)).queue ≡ suc slot) q stands.1))

-- ---- Masks

pub mask-of : {A : Type 0} (f : ℕ → A → Bool) (xs : List A) (a : A) (l : List ℕ) → length xs ≡ task_count → ((k : ℕ) → k < task_count → f k (get_or xs k a) ≡ member k l)
    → mask (map_with_index f xs) ≡ mask_of l
mask-of f xs a l long same = ap mask (by_number f (λ t. member t l) xs a false task_count long same)

pub mask-none : 0 ≡ mask_of []
unfolding mask numbers_from member
mask-none = refl

-- ---- Records

-- a record that is the same, and one that is f's or at another position
pub same-task : (w w' : Task) → w' ≡ w → SameButPosition w w'
same-task w w' e = subst (SameButPosition w) (sym e) refl

pub moved-task : (f own : Task → Task) (w w' : Task) (b : Bool) (p : Position) → SameButPosition (own w) (f w) → w' ≡ (if b then f w else move_task p w)
    → SameButPosition (if b then own w else w) w'
moved-task f own w w' true p h e = subst (SameButPosition (own w)) (sym e) h
moved-task f own w w' false p h e = subst (SameButPosition w) (sym e) refl

-- a queue that has other waiters alone
pub own-kept : (b : Bool) (n : ℕ) (q q' : Queue) → q' ≡ with_waiters n q → SameButCounts (if b then q else q) q'
own-kept true n q q' e = subst (SameButCounts q) (sym e) refl
own-kept false n q q' e = subst (SameButCounts q) (sym e) refl

changed-queue : (f own : Queue → Queue) (b : Bool) (q q' : Queue) → SameButCounts (own q) (f q) → q' ≡ (if b then f q else q)
    → SameButCounts (if b then own q else q) q'
changed-queue f own true q q' h e = subst (SameButCounts (own q)) (sym e) h
changed-queue f own false q q' h e = subst (SameButCounts q) (sym e) refl

-- the queue in the slot is changed by h, which is own but for its counts
pub changed-queues : {s s' : State} {slot : ℕ} {h : Queue → Queue} → QueueChanged s s' slot h → (own : Queue → Queue) → ((q : Queue) → SameButCounts (own q) (h q))
    → (i : ℕ) → i < slot_count → SameButCounts (at_index slot own i (queue_at s i)) (queue_at s' i)
changed-queues {s} {s'} {slot} {h} change own counts i i< = changed-queue h own (eqb i slot) _ _ (counts (queue_at s i)) (CountChange.after change i i<)

-- ---- Lists and counts

module _ {s : State} (g : SoundFacts s) (slot : ℕ) (slot< : slot < slot_count) where
  pub waiters-mask : mask (waiters_of slot s.tasks) ≡ mask_of (contents s slot).waiters
  unfolding waiters_of contents
  waiters-mask = mask-of _ s.tasks (fresh_task 1) _ g.sized.tasks (λ k h. in-by-rank (tasks-ranked s g slot slot<) k h)

  pub count-waiters : (queue_at s slot).waiters ≡ length (contents s slot).waiters
  unfolding contents
  count-waiters = sym (length-by-rank (tasks-ranked s g slot slot<))

  pub count-messages : (queue_at s slot).pending ≡ length (contents s slot).messages
  unfolding contents
  count-messages = sym (length-map (by_rank (λ (m : Buffer). m.position) slot (queue_at s slot).pending s.pool) _ ∙ length-by-rank (buffers-ranked s g slot slot<))

  -- a task is in the queue exactly if it is one of its waiters
  pub waits_in : (k : ℕ) → k < task_count → in_queue slot (task_at s k).position ≡ member k (contents s slot).waiters
  unfolding contents
  waits_in k h = in-by-rank (tasks-ranked s g slot slot<) k h
