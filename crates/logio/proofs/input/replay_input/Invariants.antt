-- `logio::input::replay_input`. Assumes nothing.
use Rattle.std.proofs.Common.{◌≡◌, ◌-◌, length, Result}
use Rattle.std.specs.Prelude.{is_some}
use Rattle.records.specs.Bytes.{Tables, tables}
use Rattle.logio.specs.declared.input.ReplayError.{ReplayError}
use Rattle.logio.specs.Turns.{Turns}
use Rattle.logio.proofs.input.replay_input.Given as goal

-- what the turns to come leave is what all of them leave
abbrev pub invariant-loop : goal.invariant-loop
invariant-loop l =
    ((ending : Result (Unit {0}) ReplayError) (left : Tables) → Turns (is_some l.fn.to) ending left (18446744073709551615 - l.counter) (tables l.queues l.pool l.tasks)
    → Turns (is_some l.fn.to) ending left 18446744073709551615 (tables l.initial.queues l.initial.pool l.initial.tasks))
    × (length l.queues ≡ length l.initial.queues)
    × (length l.pool ≡ length l.initial.pool)
    × (length l.tasks ≡ length l.initial.tasks)
