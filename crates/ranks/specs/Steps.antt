-- The rank steps: insert, take out, first. Messages and waiters share them. Insert and take out say what becomes of the position of record `j`.
use Rattle.std.specs.Prelude.{ℕ, suc, ◌-◌, ◌<◌, ◌≡◌, Bool, true, ◌&&◌, List, [], map, get_or, eqb, leb, ltb, if◌then◌else◌}
use Rattle.ranks.specs.Lists.{◌implies◌, map_with_index, count_true, every, find_index, numbers_from}
use Rattle.ranks.specs.Position.{Position, no_queue, position_at, in_queue, stands_at}
use Rattle.ranks.specs.Table.{position_in}

-- Record `i` is put at a rank of the queue; those at that rank or behind it move back by one.
unfoldable pub inserted : (i slot rank j : ℕ) → Position → Position
inserted i slot rank j p =
    if eqb j i then position_at slot rank else if in_queue slot p && leb rank p.rank then position_at slot (suc p.rank) else p

-- Record `i` is taken out from a rank of the queue. "Those behind move up and keep their order."
unfoldable pub taken_out : (i slot rank j : ℕ) → Position → Position
taken_out i slot rank j p =
    if eqb j i then no_queue else if in_queue slot p && ltb rank p.rank then position_at slot (p.rank - 1) else p

-- The record that stands at a rank of the queue, or how many records there are. The first stands at rank 0.
abbrev pub record_at : {A : Type 0} → (A → Position) → (slot rank : ℕ) → List A → ℕ
record_at position slot rank xs = find_index (λ j x. stands_at slot rank (position x)) xs

-- The records of the queue by rank: those at the ranks 0 to n-1, in order.
unfoldable pub by_rank : {A : Type 0} → (A → Position) → (slot n : ℕ) → List A → List ℕ
by_rank position slot n xs = map (λ r. record_at position slot r xs) (numbers_from 0 n)

-- The positions in the queue have the ranks 0 to n-1, each exactly once.
unfoldable pub ranked : (slot n : ℕ) → List Position → Bool
ranked slot n ps =
    every (λ j p. in_queue slot p implies ltb p.rank n) ps
    && every (λ i r. eqb (count_true (map_with_index (λ j p. stands_at slot r p) ps)) 1) (numbers_from 0 n)

-- ---- On a table whose records have a position: record `i` becomes what `f` makes of it, and `move` gives the others their positions

abbrev pub insert_into : {A : Type 0} → (A → Position) → (Position → A → A) → (i slot rank : ℕ) → (A → A) → List A → List A
insert_into position move i slot rank f xs = map_with_index (λ j x. if eqb j i then f x else move (inserted i slot rank j (position x)) x) xs

abbrev pub take_out_of : {A : Type 0} → (A → Position) → (Position → A → A) → (i slot rank : ℕ) → (A → A) → List A → List A
take_out_of position move i slot rank f xs = map_with_index (λ j x. if eqb j i then f x else move (taken_out i slot rank j (position x)) x) xs

-- ---- For the code, on a table whose records have their position at byte `place`

-- There is room behind the ranks of the queue for one more, in a byte.
abbrev pub Room : (place slot : ℕ) → List (List ℕ) → Type 0
Room place slot rs = (j : ℕ) → in_queue slot (position_in place (get_or rs j [])) ≡ true → (position_in place (get_or rs j [])).rank < 255

-- the record at rank 0 of the queue, or how many there are
abbrev pub first_at : (place slot : ℕ) → List (List ℕ) → ℕ
first_at place slot rs = record_at (position_in place) slot 0 rs
