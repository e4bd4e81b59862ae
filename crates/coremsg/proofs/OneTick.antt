-- One task's tick, as the code comes to it. Assumes nothing.
use Prim.Native.Nat.{ℕ, pred, ◌-◌, ◌<◌}
use mathlib.Core.Path.{◌≡◌, refl, sym, ap, ◌∙◌}
use mathlib.Core.Bool.{true, false}
use mathlib.Core.List.{List}
use Rattle.std.specs.Prelude.{if◌then◌else◌}
use Rattle.ranks.specs.Lists.{map_with_index}
use Rattle.records.specs.Layout.{task_count}
use Rattle.records.specs.Records.{Task, State}
use Rattle.records.specs.Bytes.{tables, decode_queues, decode_pool, decode_tasks, decode, decode_task_at}
use Rattle.records.specs.Changes.{at_index, ready_with, with_ticks}
use Rattle.records.specs.TaskHeads.{head_of, with_head, ticked_head}
use Rattle.threadq.proofs.TaskHead.{head-written}
use Rattle.records.specs.declared.task.TaskHead.{TaskHead}
use Rattle.records.specs.Status.{TIMEOUT}
use Rattle.records.proofs.Access.{task-at}
use Rattle.specification.specs.Lookup.{leave}
use Rattle.specification.specs.Tick.{is_last_tick, is_ticking, tick_task}

-- one task's tick by the head of its record
abbrev by_head : State → ℕ → TaskHead → State
by_head s t x =
    if is_last_tick x.state x.ticks_left
    then leave s t (pred x.queue) x.rank (ready_with TIMEOUT)
    else if is_ticking x.state x.ticks_left
    then record { queues = s.queues; pool = s.pool; tasks = map_with_index (at_index t (with_ticks (x.ticks_left - 1))) s.tasks }
    else s

module _ (q p w : List ℕ) (t : ℕ) (h : t < task_count) (x : TaskHead) (read : x ≡ head_of (decode_task_at t w)) where
  by-head : by_head (decode (tables q p w)) t x ≡ tick_task (decode (tables q p w)) t
  unfolding tick_task
  by-head = ap (by_head (decode (tables q p w)) t) (read ∙ ap head_of (sym (task-at (tables q p w) t h)))

  pub timed-out : (s : State) (slot : ℕ) → is_last_tick x.state x.ticks_left ≡ true → slot ≡ pred x.queue
      → s ≡ leave (decode (tables q p w)) t slot x.rank (ready_with TIMEOUT) → s ≡ tick_task (decode (tables q p w)) t
  timed-out s slot e at left =
      left ∙ ap (λ (k : ℕ). leave (decode (tables q p w)) t k x.rank (ready_with TIMEOUT)) at ∙ rw e refl ∙ by-head

  pub counted-down : is_last_tick x.state x.ticks_left ≡ false → is_ticking x.state x.ticks_left ≡ true → (w' : List ℕ) (made : TaskHead) → made ≡ ticked_head (x.ticks_left - 1) x
      → decode_tasks w' ≡ map_with_index (at_index t (with_head made)) (decode_tasks w) → decode (tables q p w') ≡ tick_task (decode (tables q p w)) t
  unfolding decode
  counted-down last ticks w' made makes written =
      let one = head-written w w' t h x made (ticked_head (x.ticks_left - 1)) (with_ticks (x.ticks_left - 1)) (λ w. refl) read makes written in
      ap (λ (tasks : List Task). record { queues = decode_queues q; pool = decode_pool p; tasks = tasks }) one ∙ rw (last, ticks) refl ∙ by-head

  pub still : is_last_tick x.state x.ticks_left ≡ false → is_ticking x.state x.ticks_left ≡ false → decode (tables q p w) ≡ tick_task (decode (tables q p w)) t
  unfolding decode
  still last ticks = rw (last, ticks) refl ∙ by-head
