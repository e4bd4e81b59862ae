-- A task that begins to wait, and a message that is copied. Assumes nothing.
use Prim.Native.Nat.{ℕ, ◌+◌, ◌-◌, ◌*◌, ◌≤◌, ◌<◌}
use native.Mathlib.Omega.{arith}
use mathlib.Core.Path.{◌≡◌, refl, sym, ap, ◌∙◌}
use mathlib.Core.List.{List}
use lib.ListN.{length, take, drop, length-drop}
use lib.Seq.{take-take, take-add, drop_at, drop-drop, length-take-le}
use Rattle.ranks.specs.Lists.{map_with_index}
use Rattle.ranks.specs.Position.{Position, position_at}
use Rattle.ranks.specs.Steps.{inserted}
use Rattle.ranks.specs.Table.{slice, records, moved}
use Rattle.records.specs.Layout.{capacity, slot_count, buffer_count, buffer_data, buffer_width, pool_size, task_count, task_position, task_width, tasks_size}
use Rattle.records.specs.Records.{Queue, message_in}
use Rattle.records.specs.Bytes.{tables, decode_buffer, decode_tasks, decode, decode_queue_at, decode_buffer_at, decode_task_at}
use Rattle.records.specs.Changes.{at_index, waiting_at, insert_task}
use Rattle.records.specs.TaskHeads.{head_of, with_head, waiting_head}
use Rattle.records.specs.declared.task.TaskHead.{TaskHead}
use Rattle.records.proofs.Access.{queue-at, task-at}
use Rattle.octets.proofs.NumberBytes.{slice-lent}
use Rattle.specification.specs.Receive.{rank_for, wait_rank}
use Rattle.threadq.proofs.TaskHead.{head-written}
use Rattle.coremsg.proofs.Changed.{task-stepped}

-- a task is put in at the rank, and its head says that it waits
pub task_entered : (slot k rank ticks : ℕ) (t u v : List ℕ) → k < task_count → length t ≡ tasks_size → (at : ℕ) (p : Position) (h made : TaskHead)
    → records task_count task_width u ≡ map_with_index (moved task_position (inserted k slot rank)) (records task_count task_width t) → at ≡ rank → p ≡ position_at slot at → h ≡ head_of (decode_task_at k u)
    → made ≡ waiting_head p.queue p.rank ticks h → decode_tasks v ≡ map_with_index (at_index k (with_head made)) (decode_tasks u)
    → decode_tasks v ≡ insert_task k slot rank (waiting_at (position_at slot rank) ticks) (decode_tasks t)
task_entered slot k rank ticks t u v hk l at p h made put same_rank placed read makes written =
    task-stepped (inserted k slot rank) k (waiting_at (position_at slot rank) ticks) (λ p w. refl) t u v l put
    (head-written u v k hk h made (waiting_head p.queue p.rank ticks) (waiting_at (position_at slot rank) ticks)
    (λ w. ap (λ (p : Position). waiting_at p ticks w) (placed ∙ ap (position_at slot) same_rank)) read makes written)

-- the rank that the code comes to
pub rank_is : (queues pool tasks : List ℕ) (caller slot : ℕ) → caller < task_count → slot < slot_count → (q : Queue) → q ≡ decode_queue_at slot queues → (rank : ℕ)
    → rank ≡ rank_for q slot (decode_task_at caller tasks).priority (decode_tasks tasks) → rank ≡ wait_rank (decode (tables queues pool tasks)) caller slot
unfolding wait_rank decode
rank_is queues pool tasks caller slot hc hs q read rank e =
    rw (queue-at (tables queues pool tasks) slot hs ∙ sym read, task-at (tables queues pool tasks) caller hc) e

-- the message of a buffer, as a part of the pool
pub message-lent : (t : List ℕ) (b n : ℕ) → b < buffer_count → length t ≡ pool_size → n ≡ (decode_buffer_at b t).message_length → n ≤ capacity
    → take (b * buffer_width + buffer_data + n - (b * buffer_width + buffer_data)) (drop (b * buffer_width + buffer_data) t) ≡ message_in (decode_buffer_at b t)
unfolding decode_buffer slice
message-lent t b n hb l e short =
    let rest : List ℕ = drop (b * buffer_width) t in
    let long : buffer_data ≤ length rest = omega (arith, length-drop (b * buffer_width) t) in
    slice-lent t (b * buffer_width + buffer_data) n
    ∙ sym (ap (λ (k : ℕ). take k (take capacity (drop buffer_data (take buffer_width rest)))) (sym e)
    ∙ ap (λ (x : List ℕ). take n (take capacity x)) (ap (drop buffer_data) (take-add buffer_data capacity rest) ∙ drop_at (take buffer_data rest) (take capacity (drop buffer_data rest)) buffer_data (length-take-le buffer_data rest long))
    ∙ take-take n capacity (take capacity (drop buffer_data rest)) short ∙ take-take n capacity (drop buffer_data rest) short
    ∙ ap (take n) (drop-drop buffer_data (b * buffer_width) t))
