-- Document 01: the layout, demand 1 and demand 2, as statements about `step` and `run` on byte tables. Demand 3 is in Noninterference.
use Rattle.std.specs.Prelude.{◌^◌, ◌↔◌, ℕ, suc, ◌≤◌, ◌<◌, ◌≡◌, ◌⊎◌, Bool, true, false, not, ◌&&◌, ◌||◌, List, [], ◌∷◌, map, eqb, if◌then◌else◌}
use Rattle.std.specs.Int.Count.{ones}
use Rattle.ranks.specs.Lists.{all_true, count_true, map_with_index}
use Rattle.ranks.specs.Position.{in_queue}
use Rattle.records.specs.Layout.{slot_count, buffer_count, task_count}
use Rattle.records.specs.Records.{State, queue_at, buffer_at, task_at}
use Rattle.records.specs.Bytes.{Tables, decode, encode, right_lengths}
use Rattle.records.specs.InRange.{ByteTables, FieldsInRange}
use Rattle.records.specs.Status.{SUCCESSFUL, TIMEOUT, OBJECT-WAS-DELETED, WAITING, CORRUPT, BAD-CALLER, BAD-SHAPE}
use Rattle.specification.specs.Answer.{Answer, Refusal, refuse}
use Rattle.specification.specs.Call.{Directive, Call, broadcast, create, ident, on_queue, call, tick, arguments_in_range}
use Rattle.specification.specs.Sound.{sound}
use Rattle.specification.specs.Lookup.{waiters_of}
use Rattle.specification.specs.Step.{bad_caller, refusals, step}
use Rattle.specification.specs.Run.{Event, run, fresh_tables, good_priorities}
use Rattle.theorems.specs.SoundTables.{SoundTables, NotRefused}
use Rattle.theorems.specs.QueueLists.{QueuesAsLists, member}

-- ---- The layout: bytes and records correspond, and fresh tables are sound

pub record LayoutHolds : Type 0 where
  pub decode-encode : (s : State) → FieldsInRange s → decode (encode s) ≡ s
  pub encode-decode : (t : Tables) → ByteTables t → encode (decode t) ≡ t
  pub decoded : (t : Tables) → ByteTables t → FieldsInRange (decode t)
  pub encoded : (s : State) → FieldsInRange s → ByteTables (encode s)
  pub fresh : (priorities : List ℕ) → good_priorities priorities ≡ true → SoundTables (fresh_tables priorities)

-- ---- Demand 1: for any tables and any call, each refusal comes exactly where the documents say and changes nothing

-- The status is that of the first reason in the list that holds.
pub data FirstThatHolds (status : ℕ) : List Refusal → Type 0 where
  here : {r : Refusal} {rs : List Refusal} → r.holds ≡ true → r.status ≡ status → FirstThatHolds status (r ∷ rs)
  later : {r : Refusal} {rs : List Refusal} → r.holds ≡ false → FirstThatHolds status rs → FirstThatHolds status (r ∷ rs)

pub record Demand1 : Type 0 where
  -- status n exactly if its test holds and no earlier one does
  pub exactly : (t : Tables) (c : Call) (n : ℕ) → (n ≡ SUCCESSFUL → ⊥) → (n ≡ WAITING → ⊥) → ((step t c).answer.status ≡ n) ↔ FirstThatHolds n (refusals t c)
  -- 0 or 14 exactly if no test holds
  pub accepted : (t : Tables) (c : Call) → NotRefused (step t c).answer ↔ (all_true (map (λ (r : Refusal). not r.holds) (refusals t c)) ≡ true)
  -- "All but 0 and 14 are refusals and change nothing": the very tables, value 0, mask 0
  pub refused : (t : Tables) (c : Call) → ((step t c).answer.status ≡ SUCCESSFUL → ⊥) → ((step t c).answer.status ≡ WAITING → ⊥)
      → step t c ≡ refuse t (step t c).answer.status
  -- "Order: 16, 10, 11": each exactly where it belongs
  pub bad-shape : (t : Tables) (c : Call) → ((step t c).answer.status ≡ BAD-SHAPE) ↔ (right_lengths t ≡ false)
  pub corrupt : (t : Tables) (c : Call) → ((step t c).answer.status ≡ CORRUPT) ↔ ((right_lengths t ≡ true) × (sound (decode t) ≡ false))
  pub bad-caller : (t : Tables) (caller : ℕ) (d : Directive)
      → ((step t (call caller d)).answer.status ≡ BAD-CALLER)
      ↔ ((right_lengths t ≡ true) × (sound (decode t) ≡ true) × (bad_caller (decode t) caller ≡ true))
  -- "A tick has no caller."
  pub tick-has-no-caller : (t : Tables) → (step t tick).answer.status ≡ BAD-CALLER → ⊥
  -- TIMEOUT and OBJECT_WAS_DELETED: "only written to a task"
  pub only-to-tasks : (t : Tables) (c : Call)
      → ((step t c).answer.status ≡ TIMEOUT → ⊥) × ((step t c).answer.status ≡ OBJECT-WAS-DELETED → ⊥)

-- ---- Demand 2: from any sound tables

-- a queue's records: those buffers, or tasks, that are in it
abbrev pub message_count : State → (slot : ℕ) → ℕ
message_count s slot = count_true (map_with_index (λ b m. in_queue slot m.position) s.pool)

abbrev pub waiter_count : State → (slot : ℕ) → ℕ
waiter_count s slot = count_true (waiters_of slot s.tasks)

pub record AnswerInRange (a : Answer) : Type 0 where
  pub status : a.status ≤ 16
  pub value : a.value < 2 ^ 32
  pub woken : a.woken < 2 ^ 32

-- the ids that a run issued, in order
unfoldable pub is_create : Call → Bool
is_create (call caller (create name limit max_size attributes)) = true
is_create (call caller (ident name share)) = false
is_create (call caller (on_queue id operation)) = false
is_create tick = false

unfoldable pub issued : List Event → List ℕ
issued [] = []
issued (e ∷ es) = if is_create e.call && eqb e.answer.status SUCCESSFUL then e.answer.value ∷ issued es else issued es

unfoldable pub distinct : List ℕ → Bool
distinct [] = true
distinct (n ∷ ns) = not (member n ns) && distinct ns

pub record Demand2 : Type 0 where
  -- sound stays sound, and so do lengths and bytes
  pub sound-stays : (t : Tables) (c : Call) → SoundTables t → arguments_in_range c ≡ true → SoundTables (step t c).after
  pub answers : (t : Tables) (c : Call) → SoundTables t → AnswerInRange (step t c).answer
  -- no queue holds messages and waiters together: of the counts, and of the records
  pub counts-apart : (t : Tables) → SoundTables t → (i : ℕ) → i < slot_count
      → ((queue_at (decode t) i).pending ≡ 0) ⊎ ((queue_at (decode t) i).waiters ≡ 0)
  pub records-apart : (t : Tables) → SoundTables t → (i b k : ℕ) → i < slot_count → b < buffer_count → k < task_count
      → (buffer_at (decode t) b).position.queue ≡ suc i → (task_at (decode t) k).position.queue ≡ suc i → ⊥
  -- "each is a count of records"
  pub pending-counts : (t : Tables) → SoundTables t → (i : ℕ) → i < slot_count → message_count (decode t) i ≡ (queue_at (decode t) i).pending
  pub waiters-count : (t : Tables) → SoundTables t → (i : ℕ) → i < slot_count → waiter_count (decode t) i ≡ (queue_at (decode t) i).waiters
  -- "the number of tasks unblocked, which is the ones in the mask"; a tick's value likewise
  pub broadcast-ones : (t : Tables) (caller id : ℕ) (message : List ℕ) → SoundTables t
      → (step t (call caller (on_queue id (broadcast message)))).answer.value ≡ ones (step t (call caller (on_queue id (broadcast message)))).answer.woken
  pub tick-ones : (t : Tables) → SoundTables t → (step t tick).answer.value ≡ ones (step t tick).answer.woken
  -- a queue as a list
  pub lists : QueuesAsLists
  -- "no id is issued twice"
  pub ids-distinct : (priorities : List ℕ) (calls : List Call) → good_priorities priorities ≡ true → all_true (map arguments_in_range calls) ≡ true
      → distinct (issued (run (fresh_tables priorities) calls).events) ≡ true
  -- no run from fresh tables ever answers 10 or 16
  pub never-corrupt : (priorities : List ℕ) (calls : List Call) → good_priorities priorities ≡ true → all_true (map arguments_in_range calls) ≡ true
      → all_true (map (λ (e : Event). not (eqb e.answer.status CORRUPT || eqb e.answer.status BAD-SHAPE)) (run (fresh_tables priorities) calls).events)
      ≡ true
