-- Where a message or a waiting task stands: its queue (slot+1, 0 none) and its rank there.
use Rattle.std.specs.Prelude.{ℕ, suc, Bool, ◌&&◌, eqb}
use Rattle.ranks.specs.declared.Position.{Position as Declared}

abbrev pub Position : Type 0
Position = Declared

abbrev pub no_queue : Position
no_queue = record { queue = 0; rank = 0 }

-- at a rank of the queue in a slot
abbrev pub position_at : (slot rank : ℕ) → Position
position_at slot rank = record { queue = suc slot; rank = rank }

abbrev pub in_queue : (slot : ℕ) → Position → Bool
in_queue slot p = eqb p.queue (suc slot)

abbrev pub stands_at : (slot rank : ℕ) → Position → Bool
stands_at slot rank p = in_queue slot p && eqb p.rank rank
