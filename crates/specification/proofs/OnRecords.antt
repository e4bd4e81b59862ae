-- A call and a run on the tables as records, which is what a call and a run on the bytes come to. Assumes nothing.
use Rattle.std.specs.Prelude.{List, [], ◌∷◌, ◌++◌}
use Rattle.records.specs.Records.{State}
use Rattle.specification.specs.Answer.{Outcome, refuse_if_any}
use Rattle.specification.specs.Call.{Call}
use Rattle.specification.specs.Step.{common_refusals, own_refusals, effect}
use Rattle.specification.specs.Run.{Event}

-- what a call does to tables of the right lengths
unfoldable pub call_on_records : State → Call → Outcome State
call_on_records s c = refuse_if_any s (common_refusals s c ++ own_refusals s c) (effect s c)

unfoldable pub events_on_records : State → List Call → List Event
events_on_records s [] = []
events_on_records s (c ∷ cs) =
    let o = call_on_records s c in
    record { call = c; answer = o.answer } ∷ events_on_records o.after cs

unfoldable pub state_after : State → List Call → State
state_after s [] = s
state_after s (c ∷ cs) = state_after (call_on_records s c).after cs
