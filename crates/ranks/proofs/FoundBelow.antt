-- What a search found, below a count. Assumes nothing.
use Prim.Native.Nat.{ℕ, ◌≤◌, ◌<◌}
use mathlib.Core.Path.{◌≡◌, sym}
use mathlib.Core.Logic.{⊎_elim}
use Rattle.std.specs.Prelude.{Some, None}
use borrow.Author.Tests.{lt-ltb, le-ltb}
use Rattle.ranks.specs.Lists.{found_below}
use Rattle.ranks.proofs.Tests.{lt-or-ge}

-- below the count the index is found
pub found-some : (count i : ℕ) → i < count → found_below count i ≡ Some i
unfolding found_below
found-some count i h = rw (lt-ltb i count h)

-- and from the count on none is
pub found-none : (count i : ℕ) → count ≤ i → found_below count i ≡ None
unfolding found_below
found-none count i h = rw (le-ltb i count h)

-- what is found is the index, below the count
pub some-found : (count i b : ℕ) → Some b ≡ found_below count i → (b ≡ i) × (i < count)
some-found count i b e =
    ⊎_elim (λ (h : i < count). let f = found-some count i h in (cc, h)) (λ (h : count ≤ i). let f = found-none count i h in absurd cc) (lt-or-ge i count)

pub found-is : (count i b : ℕ) → found_below count i ≡ Some b → (b ≡ i) × (i < count)
found-is count i b e = some-found count i b (sym e)

-- where none is found the index is the count, or behind it
pub none-found : (count i : ℕ) → None ≡ found_below count i → count ≤ i
none-found count i e = ⊎_elim (λ (h : i < count). let f = found-some count i h in absurd cc) (λ (h : count ≤ i). h) (lt-or-ge i count)

pub found-is-none : (count i : ℕ) → found_below count i ≡ None → count ≤ i
found-is-none count i e = none-found count i (sym e)
