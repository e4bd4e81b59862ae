-- `soundness::ranked::every_ranked` meets its contract. Assumes nothing.
use Prim.Native.Nat.{ℕ, ◌+◌, ◌*◌, ◌<◌}
use native.Mathlib.Omega.{arith}
use mathlib.Core.Path.{◌≡◌, refl, sym, ap, subst, ◌∙◌}
use mathlib.Core.Bool.{Bool, true, false}
use lib.ListN.{length, get_or}
use mir.Val.{bool_byte}
use Rattle.std.specs.Prelude.{if◌then◌else◌}
use Rattle.ranks.specs.Lists.{count_true}
use Rattle.ranks.specs.Position.{no_queue, stands_at}
use Rattle.ranks.proofs.Searches.{all-below, answered, one-more-passes, all_pass, one-fails}
use Rattle.ranks.proofs.Table.{position-inside}
use Rattle.records.specs.Layout.{slot_count, queue_width}
use Rattle.records.specs.Records.{free_queue}
use Rattle.records.specs.Bytes.{decode_queue, decode_queues}
use Rattle.records.proofs.Writing.{at_table, length-decoded}
use Rattle.soundness.specs.Parts.{positions_in, stood, Among}
use Rattle.soundness.proofs.Ranks.{Counted, length-positions, at-positions, part-is, none-counted, at-most-one, one-more-counted, all-counted, no-rank, one-more-rank, Visited, queue-ranked, queue-skipped, queue-broken}
use Rattle.soundness.proofs.ranked.every_ranked.Goals.{After-from-found, After-held-n, After-part_size-size, After-records, In-records, Start, then-is_live-n+else-ranks-test, else-is_live-n}
use Rattle.soundness.proofs.ranked.every_ranked.Goals as goal

visited : (c : After-held-n) → Visited c.args.members (decode_queues c.args.queues.now) (positions_in c.args.positions c.args.t.now) c.search.slot c.held-n.result c.read_queue-q.result
visited c =
    record {
      inside = c.search-test.true;
      read = at_table decode_queue slot_count queue_width c.args.queues.now c.search.slot c.search-test.true (free_queue 0) ∙ sym c.read_queue-q.ensures;
      count = c.held-n.ensures;
      low = c.requires.1.1.1.0;
    }

among : (c : After-part_size-size) → Among c.search.slot c.part_start-from.result (c.part_start-from.result + c.part_size-size.result) (positions_in c.args.positions c.args.t.now)
among c = part-is c.part_start-from.ensures c.part_size-size.ensures (c.requires.1.1.1.1 c.search.slot c.search-test.true)

-- how many are counted up to a place, which may be written in another way
reached : (c : After-part_size-size) {rank found k next : ℕ} → k ≡ next
    → Counted (positions_in c.args.positions c.args.t.now) c.search.slot rank c.part_start-from.result (c.part_start-from.result + c.part_size-size.result) found k
    → Counted (positions_in c.args.positions c.args.t.now) c.search.slot rank c.part_start-from.result (c.part_start-from.result + c.part_size-size.result) found next
reached c {rank} {found} e = subst (λ (m : ℕ). Counted (positions_in c.args.positions c.args.t.now) c.search.slot rank c.part_start-from.result (c.part_start-from.result + c.part_size-size.result) found m) e

size : (s : Start) → length (positions_in s.args.positions s.args.t.now) ≡ s.args.positions.count
size s = length-positions s.args.positions s.args.t.now s.requires.1.0

-- record k is one of the table, and its position lies there
one_of : (c : In-records) → (c.part_start-from.result + c.records.j) < c.args.positions.count
one_of c =
    let part = part-is c.part_start-from.ensures c.part_size-size.ensures (c.requires.1.1.1.1 c.search.slot c.search-test.true) in
    omega (arith, c.records-test.true, part.inside, length-positions c.args.positions c.args.t.now c.requires.1.0)

within : (c : In-records) → (c.part_start-from.result + c.records.j) * c.args.positions.stride + c.args.positions.place + 1 < length c.args.t.now
within c = position-inside c.requires.1.0 (c.part_start-from.result + c.records.j) (one_of c)

-- what record k adds: one where it stands at the rank
one : (c : After-from-found) → c.from-found.result ≡ (if stands_at c.search.slot c.ranks.rank (get_or (positions_in c.args.positions c.args.t.now) (c.part_start-from.result + c.records.j) no_queue) then 1 else 0)
one c =
    c.from-found.ensures ∙ as-number c.stands_at.result
    ∙ ap {B = ℕ} (λ (b : Bool). if b then 1 else 0)
    (c.stands_at.ensures ∙ ap (stands_at c.search.slot c.ranks.rank) (sym (at-positions c.args.positions c.args.t.now c.requires.1.0 (c.part_start-from.result + c.records.j) (one_of (goal.at.records-preserved c).In-records))))
  where
    as-number : (b : Bool) → bool_byte b ≡ (if b then 1 else 0)
    as-number true = refl
    as-number false = refl

-- how many records stand at the rank
counted : (c : After-records)
    → c.records.found ≡ count_true (stood c.search.slot (positions_in c.args.positions c.args.t.now) c.ranks.rank)
counted c =
    let part = part-is c.part_start-from.ensures c.part_size-size.ensures (c.requires.1.1.1.1 c.search.slot c.search-test.true) in
    all-counted (positions_in c.args.positions c.args.t.now) c.search.slot c.ranks.rank part c.records.invariant (omega (arith, c.records-test.false))

pub search-init : goal.search-init
search-init c = all-below

pub ranks-init : goal.ranks-init
ranks-init c = no-rank c.search.invariant.answer

pub records-init : goal.records-init
records-init c =
    reached (goal.at.records-init c).After-part_size-size (omega arith)
    (none-counted (positions_in c.args.positions c.args.t.now) c.search.slot c.ranks.rank (among (goal.at.records-init c).After-part_size-size) (omega arith))

pub overflow_add-place : goal.overflow_add-place
overflow_add-place c = omega (arith, one_of (goal.at.overflow_add-place c).In-records, c.requires.1.1.0)

pub overflow_mul-place : goal.overflow_mul-place
overflow_mul-place c = omega (arith, within (goal.at.overflow_mul-place c).In-records)

pub overflow_add-place-in-records : goal.overflow_add-place-in-records
overflow_add-place-in-records c = omega (arith, within (goal.at.overflow_add-place-in-records c).In-records)

pub stands_at-requires : goal.stands_at-requires
stands_at-requires c = (omega (arith, within (goal.at.stands_at-requires c).In-records), c.search-test.true)

pub overflow_add-found : goal.overflow_add-found
overflow_add-found c =
    omega (arith, c.records.invariant.few, one_of (goal.at.overflow_add-found c).In-records, c.requires.1.1.0, one c, at-most-one (stands_at c.search.slot c.ranks.rank (get_or (positions_in c.args.positions c.args.t.now) (c.part_start-from.result + c.records.j) no_queue)))

pub records-preserved : goal.records-preserved
records-preserved c =
    reached (goal.at.records-preserved c).After-part_size-size (omega arith)
    (one-more-counted (positions_in c.args.positions c.args.t.now) c.search.slot c.ranks.rank (among (goal.at.records-preserved c).After-part_size-size) c.records.invariant (omega (arith, c.records-test.true)) (one c))

pub ranks-preserved : goal.ranks-preserved
ranks-preserved c = one-more-rank c.ranks.invariant c.ranks-test.true (sym (counted (goal.at.ranks-preserved c).After-records) ∙ c.if-found-ne1.false)

pub search-preserved : goal.search-preserved
search-preserved c =
    let v = visited (goal.at.search-preserved c).After-held-n in
    let next = one-more-passes (free_queue 0) (length-decoded _ _ _ _) c.search.invariant v.inside v.read in
    elim c.if-is_live-n.branch [
      | then-is_live-n+else-ranks-test w ↦ answered (w.good-is ∙ w.ranks.invariant.answer) (next (sym (queue-ranked v (λ k lt. w.ranks.invariant.once k (omega (arith, w.ranks-test.false))))) refl)
      | else-is_live-n w ↦ answered (w.good-is ∙ c.search.invariant.answer) (next (sym (queue-skipped v c.is_live.ensures w.if-is_live-n.false)) refl)
    ]

pub returns-after-search : goal.returns-after-search
returns-after-search c = all_pass (free_queue 0) (length-decoded _ _ _ _) c.search.invariant (omega arith)

pub returns-then-found-ne1 : goal.returns-then-found-ne1
returns-then-found-ne1 c =
    let v = visited (goal.at.returns-then-found-ne1 c).After-held-n in
    one-fails (free_queue 0) (length-decoded _ _ _ _) c.search.invariant v.inside v.read
    (sym (queue-broken v c.is_live.ensures c.if-is_live-n.true c.ranks.rank c.ranks-test.true (λ e. c.if-found-ne1.true (counted (goal.at.returns-then-found-ne1 c).After-records ∙ e)))) refl
