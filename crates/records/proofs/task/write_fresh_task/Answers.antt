-- `records::task::write_fresh_task` meets its contract. Assumes nothing.
use Rattle.std.proofs.Common.{rules}
use mathlib.Core.Path.{◌≡◌, refl, ap, ◌∙◌}
use Prim.Native.Nat.{ℕ}
use mathlib.Core.List.{List}
use lib.ListN.{set, replicate, length-set}
use Rattle.ranks.specs.Table.{slice}
use Rattle.records.specs.Layout.{task_count, task_width}
use Rattle.records.specs.Records.{fresh_task}
use Rattle.octets.specs.LittleEndian.{from_little_endian}
use Rattle.records.specs.Bytes.{decode_task}
use Rattle.records.proofs.Writing
use Rattle.records.proofs.task.write_fresh_task.Goals as goal

-- zeros but for the priority
reads-fresh : (priority : ℕ) → decode_task (set (replicate task_width 0) 3 priority) ≡ fresh_task priority
unfolding decode_task slice from_little_endian
reads-fresh priority = refl

pub returns : goal.returns
returns c =
    let a = c.args in
    let r = c.fill.new.self in
    let zeros : r ≡ replicate task_width 0 = Writing.record-filled task_count task_width a.tasks.now r a.t 0 c.requires.0 c.requires.1 (c.fill.ensures.after (λ y same. search rules)) in
    Writing.record-lent decode_task task_count task_width (fresh_task 1) a.tasks.now (set r 3 a.priority) a.t (λ _. fresh_task a.priority) c.requires.0 c.requires.1
    (length-set r 3 a.priority ∙ c.fill.ensures.len) (ap (λ (r : List ℕ). decode_task (set r 3 a.priority)) zeros ∙ reads-fresh a.priority)
