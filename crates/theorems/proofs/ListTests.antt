-- The tests and the counts of a queue, and the ranks of its waiters, on its lists. Assumes nothing.
use Prim.Native.Nat.{ℕ, suc, ◌≤◌, ◌<◌}
use native.Mathlib.Omega.{arith}
use mathlib.Core.Path.{◌≡◌, refl, sym, ap, ◌∙◌, subst}
use mathlib.Core.Bool.{false}
use mathlib.Core.Logic.{◌↔◌, ◌⊎◌, inl, inr}
use mathlib.Core.List.{List, [], ◌∷◌}
use lib.Dec.{ltb}
use lib.ListN.{length, get_or, get_or-eq_default}
use borrow.Author.Tests.{ltb-false, le-ltb}
use Rattle.ranks.specs.Position.{Position, position_at}
use Rattle.ranks.specs.Steps.{record_at, by_rank}
use Rattle.records.specs.Layout.{slot_count}
use Rattle.records.specs.Records.{State}
use Rattle.specification.specs.Lookup.{first_waiter, first_message}
use Rattle.theorems.specs.QueueLists.{contents, TestsOnLists}
use Rattle.ranks.proofs.Tests.{lt-or-ge}
use Rattle.ranks.proofs.Found.{found-stands, none_first}
use Rattle.ranks.proofs.ByRank.{RankedTable, at-rank, at-by-rank, by-rank-listed, length-by-rank}
use Rattle.specification.proofs.SoundFacts.{SoundFacts, buffers-ranked, tasks-ranked}
use Rattle.theorems.proofs.ListContents.{count-messages, count-waiters}

-- a list of no entries
empty : {B : Type 0} (l : List B) → length l ≡ 0 → l ≡ []
empty [] e = refl
empty (x ∷ l) e = absurd (omega arith)

module _ {A : Type 0} {position : A → Position} {a : A} {N slot n : ℕ} {xs : List A} (table : RankedTable position a N slot n xs) where
  -- no record stands at rank 0 exactly if the list is empty
  none-in-front : {B : Type 0} (l : List B) → n ≡ length l → (ltb (record_at position slot 0 xs) N ≡ false) ↔ (l ≡ [])
  none-in-front l e = (
    λ z. empty l (sym e ∙ none_first position slot n xs a N table.long table.ranks (ltb-false _ _ z)),
    λ z. go (lt-or-ge (record_at position slot 0 xs) N) (e ∙ ap length z),
  )
    where
      go : (record_at position slot 0 xs < N) ⊎ (N ≤ record_at position slot 0 xs) → n ≡ 0 → ltb (record_at position slot 0 xs) N ≡ false
      go (inl lt) z =
          let (q, r) = found-stands position slot 0 xs a (omega (arith, table.long)) in
          let below = table.ranks.below _ lt q in
          absurd (omega arith)
      go (inr ge) z = le-ltb _ _ ge

  -- record k stands at a rank exactly if it has that place in the list
  stands-listed : (k rank : ℕ) → k < N → (position (get_or xs k a) ≡ position_at slot rank) ↔ (get_or (by_rank position slot n xs) rank N ≡ k)
  stands-listed k rank k< = (
    λ e.
        let q : (position (get_or xs k a)).queue ≡ suc slot = ap (λ (p : Position). p.queue) e in
        let r : (position (get_or xs k a)).rank ≡ rank = ap (λ (p : Position). p.rank) e in
        let lt = table.ranks.below k k< q in
        at-by-rank table rank N (omega arith) ∙ ap (λ (m : ℕ). record_at position slot m xs) (sym r) ∙ at-rank table k k< q,
    go (lt-or-ge rank n),
  )
    where
      go : (rank < n) ⊎ (n ≤ rank) → get_or (by_rank position slot n xs) rank N ≡ k → position (get_or xs k a) ≡ position_at slot rank
      go (inl lt) e =
          let (j, q, r) = (by-rank-listed table).entry rank N lt in
          subst (λ (m : ℕ). position (get_or xs m a) ≡ position_at slot rank) e (λ i. record { queue = q i; rank = r i })
      go (inr ge) e =
          let past = get_or-eq_default (by_rank position slot n xs) N {n = rank} (omega (arith, length-by-rank table)) in
          absurd (omega arith)

pub tests-lists : {s : State} (g : SoundFacts s) (slot : ℕ) → slot < slot_count → TestsOnLists s slot
unfolding first_waiter first_message contents
tests-lists {s} g slot slot< =
    record {
      no-waiter = none-in-front (tasks-ranked s g slot slot<) _ (count-waiters g slot slot<);
      no-message = none-in-front (buffers-ranked s g slot slot<) _ (count-messages g slot slot<);
      pending = count-messages g slot slot<;
      waiters = count-waiters g slot slot<;
      position = stands-listed (tasks-ranked s g slot slot<);
    }
