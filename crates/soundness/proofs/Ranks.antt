-- The ranks of a queue, tested rank by rank over the records, for messages and waiters alike. Assumes nothing.
use Prim.Native.Nat.{ℕ, zero, suc, pred, ◌+◌, ◌*◌, ◌≤◌, ◌<◌}
use native.Mathlib.Nat.{zero-add}
use native.Mathlib.Numerals.{add-one}
use native.Mathlib.Omega.{arith}
use mathlib.Core.Path.{◌≡◌, refl, sym, ap, subst, ◌∙◌}
use mathlib.Core.Bool.{Bool, true, false, ◌&&◌, not, and-false, true≢false}
use mathlib.Core.Logic.{⊎_elim}
use mathlib.Core.List.{List, [], ◌∷◌}
use lib.Dec.{eqb, ltb}
use lib.ListN.{length, get_or, drop, get_or-eq_default}
use lib.Seq.{drop-cons, get_or-drop}
use borrow.Author.Tests.{eqb-true, eq-eqb, ltb-true, lt-ltb, not-false}
use Rattle.std.specs.Prelude.{if◌then◌else◌}
use Rattle.ranks.specs.Lists.{◌implies◌, count_true, every, numbers_from}
use Rattle.ranks.specs.declared.Positions.{Positions}
use Rattle.ranks.specs.Position.{Position, no_queue, in_queue, stands_at}
use Rattle.ranks.specs.Table.{records, position_in, Shape}
use Rattle.ranks.specs.Steps.{ranked}
use Rattle.ranks.proofs.Tests.{either, both, and, or, same?, lt-or-ge}
use Rattle.ranks.proofs.Lists.{at-mapped, length-mapped, every-at, every-from, count_none, length-range, at-range}
use Rattle.ranks.proofs.Ranked.{implying}
use Rattle.ranks.proofs.Table.{length-records, at_records, position-slice}
use Rattle.records.specs.Layout.{slot_count}
use Rattle.records.specs.Records.{Queue, free_queue, is_live}
use Rattle.soundness.specs.declared.ranked.Members.{Members}
use Rattle.soundness.specs.Parts.{positions_in, stood, held, below_count, Among, queue_ranked}

-- ---- Counting

module _ (bs : List Bool) where
  count-more : (i n : ℕ) → i < length bs → n + count_true (drop i bs) ≡ count_true bs → n + (if get_or bs i false then 1 else 0) + count_true (drop (i + 1) bs) ≡ count_true bs
  unfolding count_true
  count-more i n h inv =
      let e : count_true (drop i bs) ≡ (if get_or bs i false then 1 else 0) + count_true (drop (i + 1) bs) =
      ap count_true (drop-cons bs i false h) ∙ step (get_or bs i false) (drop (suc i) bs)
      ∙ ap (λ (k : ℕ). (if get_or bs i false then 1 else 0) + count_true (drop k bs)) (sym (add-one i)) in
      omega arith
    where
      step : (b : Bool) (l : List Bool) → count_true (b ∷ l) ≡ (if b then 1 else 0) + count_true l
      step true l = omega arith
      step false l = sym (zero-add (count_true l))

  count-after : (i n : ℕ) → ((j : ℕ) → i ≤ j → get_or bs j false ≡ false) → n + count_true (drop i bs) ≡ count_true bs → n ≡ count_true bs
  count-after i n h inv =
      let e : count_true (drop i bs) ≡ 0 = count_none (drop i bs) (λ j. get_or-drop i bs j false ∙ h (i + j) (omega arith)) in
      omega arith

count-before : (bs : List Bool) (i : ℕ) → ((j : ℕ) → j < i → get_or bs j false ≡ false) → count_true (drop i bs) ≡ count_true bs
unfolding count_true
count-before bs zero h = refl
count-before [] (suc i) h = refl
count-before (true ∷ bs) (suc i) h = absurd (true≢false (h 0 (omega arith)))
count-before (false ∷ bs) (suc i) h = count-before bs i (λ j lt. h (suc j) (omega arith))

pub at-most-one : (b : Bool) → (if b then 1 else 0) ≤ 1
at-most-one true = omega arith
at-most-one false = omega arith

-- ---- The positions of a table

module _ (at : Positions) (t : List ℕ) (shape : Shape at.stride at.place at.count (length t)) where
  pub length-positions : length (positions_in at t) ≡ at.count
  length-positions = length-mapped (λ j r. position_in at.place r) (records at.count at.stride t) ∙ length-records at.count at.stride t

  pub at-positions : (j : ℕ) → j < at.count → get_or (positions_in at t) j no_queue ≡ position_in (j * at.stride + at.place) t
  at-positions j h =
      at-mapped (λ j r. position_in at.place r) (records at.count at.stride t) j [] no_queue (omega (arith, length-records at.count at.stride t))
      ∙ ap (position_in at.place) (at_records at.count at.stride t j h) ∙ sym (position-slice (j * at.stride) at.stride at.place t shape.inside)

-- ---- The ranks of one queue

-- the part of the table that can be in the queue, as it was computed
pub part-is : {slot from size from' size' : ℕ} {ps : List Position} → from ≡ from' → size ≡ size' → Among slot from' (from' + size') ps → Among slot from (from + size) ps
part-is e f a = rw (e, f) a

stood-outside : (slot : ℕ) (ps : List Position) {from to : ℕ} → Among slot from to ps → (r j : ℕ) → (from ≤ j → j < to → ⊥) → get_or (stood slot ps r) j false ≡ false
stood-outside slot ps {from} {to} a r j out = ⊎_elim (λ lt. ⊎_elim (λ e. absurd (there lt e)) (λ e. e) (either (get_or (stood slot ps r) j false))) past (lt-or-ge j (length ps))
  where
    past : length ps ≤ j → get_or (stood slot ps r) j false ≡ false
    past h = get_or-eq_default (stood slot ps r) false (omega (arith, length-mapped (λ j p. stands_at slot r p) ps))

    there : j < length ps → get_or (stood slot ps r) j false ≡ true → ⊥
    there lt e =
        let q = (both _ _ (sym (at-mapped (λ j p. stands_at slot r p) ps j no_queue false lt) ∙ e)).0 in
        out (a.start j lt q) (a.stop j lt q)

-- Of the records from `from` on, before k, `found` stand at the rank.
pub record Counted (ps : List Position) (slot rank from to found k : ℕ) : Type 0 where
  pub start : from ≤ k
  pub stop : k ≤ to
  pub few : found ≤ k
  pub rest : found + count_true (drop k (stood slot ps rank)) ≡ count_true (stood slot ps rank)

module _ (ps : List Position) (slot rank : ℕ) {from to : ℕ} (among : Among slot from to ps) where
  pub none-counted : from ≤ to → Counted ps slot rank from to 0 from
  none-counted h =
      record {
        start = omega arith;
        stop = h;
        few = omega arith;
        rest = zero-add _ ∙ count-before (stood slot ps rank) from (λ j lt. stood-outside slot ps among rank j (λ le _. omega arith));
      }

  -- one more where record k stands at the rank
  pub one-more-counted : {found k one : ℕ} → Counted ps slot rank from to found k → k < to → one ≡ (if stands_at slot rank (get_or ps k no_queue) then 1 else 0)
      → Counted ps slot rank from to (found + one) (k + 1)
  one-more-counted {found} {k} before h said =
      let lt : k < length ps = omega (arith, among.inside) in
      let is : stands_at slot rank (get_or ps k no_queue) ≡ get_or (stood slot ps rank) k false = sym (at-mapped (λ j p. stands_at slot rank p) ps k no_queue false lt) in
      record {
        start = omega (arith, before.start);
        stop = omega arith;
        few = omega (arith, before.few, said, at-most-one (stands_at slot rank (get_or ps k no_queue)));
        rest =
            ap (λ (m : ℕ). found + m + count_true (drop (k + 1) (stood slot ps rank))) (said ∙ ap {B = ℕ} (λ (b : Bool). if b then 1 else 0) is)
            ∙ count-more (stood slot ps rank) k found (omega (arith, length-mapped (λ j p. stands_at slot rank p) ps)) before.rest;
      }

  pub all-counted : {found k : ℕ} → Counted ps slot rank from to found k → to ≤ k → found ≡ count_true (stood slot ps rank)
  all-counted {found} {k} up_to_lem h = count-after (stood slot ps rank) k found (λ j le. stood-outside slot ps among rank j (λ _ lt. omega arith)) up_to_lem.rest

-- Each rank below `rank` is found exactly once, and the answer is still that they all are.
pub record RankedUpTo (ps : List Position) (slot n : ℕ) (good : Bool) (rank : ℕ) : Type 0 where
  pub bound : rank ≤ n
  pub answer : good ≡ true
  pub once : (r : ℕ) → r < rank → count_true (stood slot ps r) ≡ 1

pub no-rank : {ps : List Position} {slot n : ℕ} {good : Bool} → good ≡ true → RankedUpTo ps slot n good 0
no-rank e = record { bound = omega arith; answer = e; once = λ r lt. absurd (omega arith) }

pub one-more-rank : {ps : List Position} {slot n : ℕ} {good : Bool} {rank : ℕ} → RankedUpTo ps slot n good rank → rank < n
    → count_true (stood slot ps rank) ≡ 1 → RankedUpTo ps slot n good (rank + 1)
one-more-rank {ps} {slot} {n} {good} {rank} before h e =
    record {
      bound = omega arith;
      answer = before.answer;
      once = λ r lt. ⊎_elim (λ (x : r ≡ rank). subst (λ (i : ℕ). count_true (stood slot ps i) ≡ 1) (sym x) e) (λ ne. before.once r (omega arith)) (same? r rank);
    }

ranks-hold : (slot n : ℕ) (ps : List Position) → ((j : ℕ) → j < length ps → (get_or ps j no_queue).queue ≡ suc slot → (get_or ps j no_queue).rank < n)
    → ((r : ℕ) → r < n → count_true (stood slot ps r) ≡ 1) → ranked slot n ps ≡ true
unfolding ranked
ranks-hold slot n ps low h =
    and (every-from (λ j p. in_queue slot p implies ltb p.rank n) ps no_queue (λ j lt. implying _ _ (λ q. lt-ltb _ _ (low j lt (eqb-true _ _ q)))))
    (every-from (λ i r. eqb (count_true (stood slot ps r)) 1) (numbers_from 0 n) 0
    (λ i lt.
    let lt' : i < n = omega (arith, length-range 0 n) in
    subst (λ (k : ℕ). eqb (count_true (stood slot ps k)) 1 ≡ true) (sym (at-range 0 n i 0 lt' ∙ zero-add i)) (eq-eqb _ _ (h i lt'))))

ranks-wrong : (slot n : ℕ) (ps : List Position) (r : ℕ) → r < n → (count_true (stood slot ps r) ≡ 1 → ⊥) → ranked slot n ps ≡ false
unfolding ranked
ranks-wrong slot n ps r h ne =
    ap (λ (b : Bool). every (λ j p. in_queue slot p implies ltb p.rank n) ps && b) (⊎_elim (λ e. absurd (ne (once e))) (λ e. e) (either (every test (numbers_from 0 n))))
    ∙ and-false (every (λ j p. in_queue slot p implies ltb p.rank n) ps)
  where
    test : ℕ → ℕ → Bool
    test i r = eqb (count_true (stood slot ps r)) 1

    once : every test (numbers_from 0 n) ≡ true → count_true (stood slot ps r) ≡ 1
    once e =
        eqb-true _ _ (subst (λ (k : ℕ). test r k ≡ true) (at-range 0 n r 0 h ∙ zero-add r)
        (every-at test (numbers_from 0 n) 0 e r (omega (arith, length-range 0 n))))

-- ---- The rule of one queue, where each record has a rank below the count of its queue

-- what is known of a queue that is looked at: its slot, its record, how much it holds
pub record Visited (members : Members) (qs : List Queue) (ps : List Position) (slot n : ℕ) (q : Queue) : Type 0 where
  pub inside : slot < slot_count
  pub read : get_or qs slot (free_queue 0) ≡ q
  pub count : n ≡ held members q
  pub low : every (λ j p. below_count members qs p) ps ≡ true

module _ {members : Members} {qs : List Queue} {ps : List Position} {slot n : ℕ} {q : Queue} (v : Visited members qs ps slot n q) where
  rank_below : (j : ℕ) → j < length ps → (get_or ps j no_queue).queue ≡ suc slot → (get_or ps j no_queue).rank < n
  rank_below j h here =
      ⊎_elim (λ z. let x : (get_or ps j no_queue).queue ≡ 0 = eqb-true _ _ z in absurd (omega arith))
      (λ lt.
      let this : pred (get_or ps j no_queue).queue ≡ slot = omega arith in
      subst (λ (k : ℕ). (get_or ps j no_queue).rank < k) (ap (λ (s : ℕ). held members (get_or qs s (free_queue 0))) this ∙ ap (held members) v.read ∙ sym v.count) (ltb-true _ _ lt))
      (or (eqb (get_or ps j no_queue).queue 0) _ (every-at (λ j p. below_count members qs p) ps no_queue v.low j h))

  pub queue-ranked : ((r : ℕ) → r < n → count_true (stood slot ps r) ≡ 1) → queue_ranked members ps slot q ≡ true
  queue-ranked h = implying _ _ (λ _. subst (λ (k : ℕ). ranked slot k ps ≡ true) v.count (ranks-hold slot n ps rank_below h))

  -- a queue that is free or holds nothing
  pub queue-skipped : {live : Bool} → live ≡ is_live q → (live && not (eqb n 0)) ≡ false → queue_ranked members ps slot q ≡ true
  queue-skipped e f =
      implying _ _
      (λ l.
      let z : n ≡ 0 = eqb-true _ _ (not-false _ (subst (λ (b : Bool). b && not (eqb n 0) ≡ false) (e ∙ l) f)) in
      subst (λ (k : ℕ). ranked slot k ps ≡ true) v.count (ranks-hold slot n ps rank_below (λ r lt. absurd (omega arith))))

  pub queue-broken : {live : Bool} → live ≡ is_live q → (live && not (eqb n 0)) ≡ true → (r : ℕ) → r < n → (count_true (stood slot ps r) ≡ 1 → ⊥) → queue_ranked members ps slot q ≡ false
  unfolding ◌implies◌
  queue-broken {live} e t r h ne =
      rw (sym e ∙ (both live (not (eqb n 0)) t).0) (subst (λ (k : ℕ). ranked slot k ps ≡ false) v.count (ranks-wrong slot n ps r h ne))
