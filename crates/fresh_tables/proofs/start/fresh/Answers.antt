-- `fresh_tables::start::fresh` meets its contract. Assumes nothing.
use Rattle.records.specs.Layout.{queues_size, pool_size, tasks_size, task_count}
use mathlib.Core.Bool.{true, ◌&&◌}
use mathlib.Core.Path.{◌≡◌, refl, ap, ◌∙◌}
use lib.ListN.{replicate}
use Rattle.ranks.specs.Lists.{all_true, map_with_index, map_from_index, within, numbers_from}
use Rattle.records.specs.Bytes.{Tables, right_lengths}
use Rattle.specification.specs.Run.{good_priorities, fresh_tables}
use Rattle.fresh_tables.specs.Fresh.{MadeFresh, made_fresh}
use Rattle.fresh_tables.proofs.start.fresh.Goals as goal

abbrev zeros : Tables
zeros = record { queues = replicate queues_size 0; pool = replicate pool_size 0; tasks = replicate tasks_size 0 }

-- the lengths and the priorities are right
right : (right_lengths zeros && good_priorities (numbers_from 1 task_count)) ≡ true
unfolding right_lengths good_priorities numbers_from all_true map_with_index map_from_index within
right = refl

made : made_fresh zeros (numbers_from 1 task_count) ≡ record { done = true; after = fresh_tables (numbers_from 1 task_count) }
unfolding made_fresh
made = rw right refl

pub returns : goal.returns
returns c =
    let m = c.make_fresh in
    let p = c.priorities in
    ap (λ (r : MadeFresh). r.after) (m.ensures ∙ ap (made_fresh zeros) p.ensures ∙ made)
