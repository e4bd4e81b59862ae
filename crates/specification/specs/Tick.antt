-- Document 01: "Tick".
use Rattle.std.specs.Prelude.{ℕ, ◌-◌, Bool, ◌&&◌, List, [], ◌∷◌, eqb, leb, if◌then◌else◌}
use Rattle.ranks.specs.Lists.{map_with_index, count_true, mask, numbers_from}
use Rattle.records.specs.Layout.{task_count}
use Rattle.records.specs.Records.{Task, State, waiting_state, task_at}
use Rattle.records.specs.Changes.{change_at, with_ticks, ready_with}
use Rattle.records.specs.Status.{SUCCESSFUL, TIMEOUT}
use Rattle.specification.specs.Answer.{Outcome, outcome}
use Rattle.specification.specs.Sound.{slot_in}
use Rattle.specification.specs.Lookup.{leave}

-- a task of this state with so many ticks left waits, and this is its last tick
abbrev pub is_last_tick : (state ticks_left : ℕ) → Bool
is_last_tick state ticks_left = eqb state waiting_state && eqb ticks_left 1

-- it waits, and not forever
abbrev pub is_ticking : (state ticks_left : ℕ) → Bool
is_ticking state ticks_left = eqb state waiting_state && leb 1 ticks_left

abbrev pub expires : Task → Bool
expires w = is_last_tick w.state w.ticks_left

abbrev pub is_timed : Task → Bool
is_timed w = is_ticking w.state w.ticks_left

-- which of the tasks expire
abbrev pub expiring : List Task → List Bool
expiring tasks = map_with_index (λ t w. expires w) tasks

-- "every waiting task with ticks above 0 loses one; all that reach 0 become ready [...] with status 7": task `t`
unfoldable pub tick_task : State → (t : ℕ) → State
tick_task s t =
    let w = task_at s t in
    if expires w
    then leave s t (slot_in w.position) w.position.rank (ready_with TIMEOUT)
    else if is_timed w
    then record { queues = s.queues; pool = s.pool; tasks = change_at t (with_ticks (w.ticks_left - 1)) s.tasks }
    else s

-- The tasks of the list in turn. Leaving changes no other task's state or ticks, so all see the same tick and leave "together".
unfoldable pub tick_tasks : State → (tasks : List ℕ) → State
tick_tasks s [] = s
tick_tasks s (t ∷ ts) = tick_tasks (tick_task s t) ts

-- "Value: how many; mask set."
unfoldable pub effect : State → Outcome State
effect s =
    outcome SUCCESSFUL (count_true (expiring s.tasks)) (mask (expiring s.tasks)) (tick_tasks s (numbers_from 0 task_count))
