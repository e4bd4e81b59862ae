-- `soundness::tasks::task_sound` meets its contract. Assumes nothing.
use Prim.Native.Nat.{◌-◌}
use native.Mathlib.Omega.{arith}
use mathlib.Core.Path.{sym, ap, ◌∙◌}
use Rattle.records.specs.Layout.{slot_count, queue_width}
use Rattle.records.specs.Records.{Queue, free_queue}
use Rattle.records.specs.Bytes.{decode_queue, decode_task}
use Rattle.records.proofs.Writing.{at_table}
use Rattle.soundness.specs.Parts.{only_queues, waiting_task_tests}
use Rattle.soundness.proofs.Cases.{task-is-ready, task-not-ready, task-elsewhere, task-waiting}
use Rattle.soundness.proofs.tasks.task_sound.Goals as goal

pub returns-then-ready_task_sound : goal.returns-then-ready_task_sound
returns-then-ready_task_sound c =
    let a = c.args in
    task-is-ready (only_queues a.queues.now) a.t (decode_task a.r.now) (sym c.ready_task_sound.ensures ∙ c.if-ready_task_sound.true)

pub returns-then-r-ne-WAITING_STATE : goal.returns-then-r-ne-WAITING_STATE
unfolding decode_task
returns-then-r-ne-WAITING_STATE c =
    let a = c.args in
    task-not-ready (only_queues a.queues.now) a.t (decode_task a.r.now) c.if-r-ne-WAITING_STATE.true (sym c.if-ready_task_sound.false ∙ c.ready_task_sound.ensures)

pub waiting_task_sound-requires : goal.waiting_task_sound-requires
waiting_task_sound-requires c = (omega arith, (c.requires.1.1, (c.requires.1.0, omega arith)))

pub returns-in-1-to-16 : goal.returns-in-1-to-16
unfolding decode_task
returns-in-1-to-16 c =
    let a = c.args in
    let slot = c.from.result - 1 in
    c.waiting_task_sound.ensures
    ∙ ap (λ (q : Queue). waiting_task_tests q slot a.t (decode_task a.r.now))
    (c.read_queue.ensures ∙ sym (at_table decode_queue slot_count queue_width a.queues.now slot (omega arith) (free_queue 0)))
    ∙ task-waiting (only_queues a.queues.now) a.t (decode_task a.r.now) c.if-r-ne-WAITING_STATE.false slot (omega arith)

pub returns-in_default : goal.returns-in_default
unfolding decode_task
returns-in_default c = task-elsewhere (only_queues c.args.queues.now) c.args.t (decode_task c.args.r.now) c.if-r-ne-WAITING_STATE.false (λ low high. omega arith)

pub returns-in_default-2 : goal.returns-in_default-2
unfolding decode_task
returns-in_default-2 c = task-elsewhere (only_queues c.args.queues.now) c.args.t (decode_task c.args.r.now) c.if-r-ne-WAITING_STATE.false (λ low high. omega arith)
