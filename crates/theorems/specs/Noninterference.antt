-- Document 01, "Runs": demand 3. What a confined share observes of a run depends on its own calls, its tasks' priorities and
-- the ticks alone.
use Rattle.std.specs.Prelude.{ℕ, ◌*◌, ◌<◌, ◌≡◌, Bool, true, false, ◌&&◌, ◌||◌, not, List, [], ◌∷◌, map, get_or, eqb, ltb, if◌then◌else◌}
use Rattle.ranks.specs.Lists.{within, all_true, all_zero, bit, numbers_from}
use Rattle.ranks.specs.Table.{slice}
use Rattle.records.specs.Split.{share_of_slot, share_of_buffer, share_of_task}
use Rattle.records.specs.Layout.{slot_count, queue_width, buffer_count, buffer_width, task_count, task_width, slot_of}
use Rattle.records.specs.Bytes.{Tables}
use Rattle.specification.specs.Answer.{Answer}
use Rattle.specification.specs.Call.{Directive, Call, create, ident, on_queue, call, tick, arguments_in_range}
use Rattle.specification.specs.Run.{Event, run, good_priorities, fresh_tables}

-- ---- Whose call

-- "It is X's if the caller is a task that share X owns, ready or waiting; a caller above 31 belongs to no share."
unfoldable pub is_call_of : (x : ℕ) → Call → Bool
is_call_of x (call caller directive) = ltb caller task_count && eqb (share_of_task caller) x
is_call_of x tick = false

unfoldable pub is_tick : Call → Bool
is_tick (call caller directive) = false
is_tick tick = true

-- what is left of a list "once every call that isn't X's is struck out"
unfoldable pub purge : (x : ℕ) → List Call → List Call
purge x [] = []
purge x (c ∷ cs) = if is_call_of x c || is_tick c then c ∷ purge x cs else purge x cs

-- ---- What X may not do: ask for an open queue, name an id of another share's slot, look a name up in another share

unfoldable pub confined_directive : (x : ℕ) → Directive → Bool
confined_directive x (create name limit max_size attributes) = not (within 2 3 attributes)
confined_directive x (ident name share) = eqb share x
confined_directive x (on_queue id operation) = eqb (share_of_slot (slot_of id)) x

unfoldable pub is_confined : (x : ℕ) → Call → Bool
is_confined x (call caller directive) = confined_directive x directive
is_confined x tick = true

-- ---- What X observes

-- the bits of X's tasks in a mask, 0 in place of the others
unfoldable pub own_bits : (x mask : ℕ) → List ℕ
own_bits x mask = map (λ t. if eqb (share_of_task t) x then bit t mask else 0) (numbers_from 0 task_count)

-- "status, value and whole mask" of a call; "status and the mask bits of X's tasks for each tick, but not its value"
pub data Observation : Type 0 where
  of_call : (answer : Answer) → Observation
  of_tick : (status : ℕ) (bits : List ℕ) → Observation

-- the observations of a run, in order: "X's first call, of its second and so on", and the ticks between them
unfoldable pub observations : (x : ℕ) → List Event → List Observation
observations x [] = []
observations x (e ∷ es) =
    if is_call_of x e.call
    then of_call e.answer ∷ observations x es
    else if is_tick e.call
    then of_tick e.answer.status (own_bits x e.answer.woken) ∷ observations x es
    else observations x es

-- "the mask of a call that isn't X's has no bit of a task of X"
unfoldable pub wakes_no_task_of : (x : ℕ) → Event → Bool
wakes_no_task_of x e = is_call_of x e.call || is_tick e.call || all_zero (own_bits x e.answer.woken)

-- the bytes of record `i` of a table
abbrev pub record_bytes : (width i : ℕ) → List ℕ → List ℕ
record_bytes width i bytes = slice (i * width) width bytes

-- "every byte of the queue, pool and task records that X owns"
pub record SameRecords (x : ℕ) (t t' : Tables) : Type 0 where
  pub queues : (i : ℕ) → i < slot_count → share_of_slot i ≡ x → record_bytes queue_width i t.queues ≡ record_bytes queue_width i t'.queues
  pub pool : (b : ℕ) → b < buffer_count → share_of_buffer b ≡ x → record_bytes buffer_width b t.pool ≡ record_bytes buffer_width b t'.pool
  pub tasks : (k : ℕ) → k < task_count → share_of_task k ≡ x → record_bytes task_width k t.tasks ≡ record_bytes task_width k t'.tasks

-- ---- The claim

-- of two runs from fresh tables
pub record Noninterference (x : ℕ) (ps ps' : List ℕ) (calls calls' : List Call) : Type 0 where
  pub observations-equal : observations x (run (fresh_tables ps) calls).events ≡ observations x (run (fresh_tables ps') calls').events
  pub wakes-none : all_true (map (wakes_no_task_of x) (run (fresh_tables ps) calls).events) ≡ true
  pub wakes-none' : all_true (map (wakes_no_task_of x) (run (fresh_tables ps') calls').events) ≡ true
  pub records-equal : SameRecords x (run (fresh_tables ps) calls).tables (run (fresh_tables ps') calls').tables

-- Demand 3: for every share and every two runs in which X's tasks have equal priorities, X is confined, and "what is left of the two lists
-- is equal".
abbrev pub Demand3 : Type 0
Demand3 =
    (x : ℕ) (ps ps' : List ℕ) (calls calls' : List Call)
    → good_priorities ps ≡ true
    → good_priorities ps' ≡ true
    → ((t : ℕ) → t < task_count → share_of_task t ≡ x → get_or ps t 0 ≡ get_or ps' t 0)
    → all_true (map arguments_in_range calls) ≡ true
    → all_true (map arguments_in_range calls') ≡ true
    → purge x calls ≡ purge x calls'
    → all_true (map (is_confined x) (purge x calls)) ≡ true
    → Noninterference x ps ps' calls calls'
