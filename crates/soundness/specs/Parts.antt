-- What the parts of the search look at.
use Rattle.std.specs.Prelude.{ℕ, suc, pred, ◌+◌, ◌≤◌, ◌<◌, ◌≡◌, Bool, true, List, [], length, get_or, eqb, ltb, ◌&&◌, ◌||◌}
use Rattle.ranks.specs.declared.Positions.{Positions}
use Rattle.ranks.specs.Lists.{◌implies◌, map_with_index, all_true}
use Rattle.ranks.specs.Position.{Position, no_queue, in_queue, stands_at}
use Rattle.ranks.specs.Table.{records, position_in}
use Rattle.ranks.specs.Steps.{ranked}
use Rattle.records.specs.Layout.{buffer_count, buffer_width, buffer_position, task_count, task_width, task_position}
use Rattle.records.specs.Split.{share_of_slot, first_buffer, share_limit}
use Rattle.records.specs.Records.{State, Queue, Buffer, Task, free_queue, fresh_task, is_live, has_priority}
use Rattle.records.specs.Bytes.{decode_queues, decode_tasks}
use Rattle.soundness.specs.declared.ranked.Members.{Members}
use Rattle.soundness.specs.declared.ranked.Members.TheVariants.{Messages, Waiters}
use Rattle.specification.specs.Sound.{used_buffer_rules, sound_buffer, by_priority, task_rules, waiting_task_rules, sound_task}

-- The state that a part looks at: a rule of `Sound.antt` that asks nothing else of the state says the same of the whole.
abbrev pub only_queues : List ℕ → State
only_queues queues = record { queues = decode_queues queues; pool = []; tasks = [] }

abbrev pub only_tasks : List ℕ → State
only_tasks tasks = record { queues = []; pool = []; tasks = decode_tasks tasks }

-- ---- Ranks, of messages or of waiters

-- the positions of records that have them at byte `place`
abbrev pub positions : (place : ℕ) → List (List ℕ) → List Position
positions place rs = map_with_index (λ j r. position_in place r) rs

abbrev pub pool_positions : List ℕ → List Position
pool_positions pool = positions buffer_position (records buffer_count buffer_width pool)

abbrev pub task_positions : List ℕ → List Position
task_positions tasks = positions task_position (records task_count task_width tasks)

-- the positions of a table's records, where they stand
abbrev pub positions_in : Positions → List ℕ → List Position
positions_in at bytes = positions at.place (records at.count at.stride bytes)

-- which records stand at a rank of the queue
abbrev pub stood : (slot : ℕ) → List Position → (rank : ℕ) → List Bool
stood slot ps rank = map_with_index (λ j p. stands_at slot rank p) ps

-- how many messages the queue holds, or how many tasks wait in it
abbrev pub held : Members → Queue → ℕ
held Messages q = q.pending
held Waiters q = q.waiters

-- the live queue's messages or waiters carry the ranks below their count, each exactly once
abbrev pub queue_ranked : Members → List Position → (slot : ℕ) → Queue → Bool
queue_ranked members ps slot q = is_live q implies ranked slot (held members q) ps

-- the rank is below the count of the queue that the position names; a record in no queue has none
abbrev pub below_count : Members → List Queue → Position → Bool
below_count members qs p = eqb p.queue 0 || ltb p.rank (held members (get_or qs (pred p.queue) (free_queue 0)))

-- what is tested of one record: its own rules, and that its rank is below the count
abbrev pub buffer_tests : State → (b : ℕ) → Buffer → Bool
buffer_tests s b m = sound_buffer s b m && below_count Messages s.queues m.position

abbrev pub task_tests : State → (t : ℕ) → Task → Bool
task_tests s t w = sound_task s t w && below_count Waiters s.queues w.position

-- the same of a buffer that belongs to queue `q` in the slot, and of a task that names it
abbrev pub used_buffer_tests : Queue → (slot b : ℕ) → Buffer → Bool
used_buffer_tests q slot b m = all_true (used_buffer_rules q slot b m) && ltb m.position.rank q.pending

abbrev pub waiting_task_tests : Queue → (slot t : ℕ) → Task → Bool
waiting_task_tests q slot t w = all_true (task_rules w) && all_true (waiting_task_rules q slot t w) && ltb w.position.rank q.waiters

-- the first record that can be in the queue of the slot, and how many can be from there on: its share's buffers, or every task
abbrev pub part_start : Members → (slot : ℕ) → ℕ
part_start Messages slot = first_buffer (share_of_slot slot)
part_start Waiters slot = 0

abbrev pub part_size : Members → (count slot : ℕ) → ℕ
part_size Messages count slot = share_limit (share_of_slot slot)
part_size Waiters count slot = count

-- the records in the queue of the slot are among those before `to`, from `from` on
pub record Among (slot from to : ℕ) (ps : List Position) : Type 0 where
  pub inside : to ≤ length ps
  pub start : (j : ℕ) → j < length ps → in_queue slot (get_or ps j no_queue) ≡ true → from ≤ j
  pub stop : (j : ℕ) → j < length ps → in_queue slot (get_or ps j no_queue) ≡ true → j < to

-- among those that can be in it
abbrev pub AmongPart : Members → (count slot : ℕ) → List Position → Type 0
AmongPart members count slot ps = Among slot (part_start members slot) (part_start members slot + part_size members count slot) ps

-- ---- Priorities

-- the live queue with PRIORITY has its waiters in order
abbrev pub queue_in_order : State → (slot : ℕ) → Queue → Bool
queue_in_order s slot q = is_live q implies (has_priority q implies by_priority s slot)

-- no two of the tasks that wait in the queue of the slot have the same rank
abbrev pub OneAtRank : (slot : ℕ) → List Task → Type 0
OneAtRank slot ts = (i j : ℕ) → i < task_count → j < task_count → (get_or ts i (fresh_task 1)).position.queue ≡ suc slot → (get_or ts j (fresh_task 1)).position.queue ≡ suc slot
    → (get_or ts i (fresh_task 1)).position.rank ≡ (get_or ts j (fresh_task 1)).position.rank → i ≡ j

-- at the rank of each of the first k tasks, if it waits in the queue of the slot, stands its priority
abbrev pub PrioritiesAtRanks : (slot k : ℕ) → List Task → List ℕ → Type 0
PrioritiesAtRanks slot k ts priorities = (j : ℕ) → j < k → (get_or ts j (fresh_task 1)).position.queue ≡ suc slot
    → get_or priorities (get_or ts j (fresh_task 1)).position.rank 0 ≡ (get_or ts j (fresh_task 1)).priority
