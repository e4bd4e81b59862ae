-- `soundness::queues::share_limits` meets its contract. Assumes nothing.
use Rattle.std.proofs.Common.{rules, arith, ◌≡◌, true, ℕ, ◌<◌, length, get_or, refl, ap, ◌^◌, ◌∙◌, sym, List, map}
use Rattle.std.specs.List.{sum, range_with_len}
use Rattle.soundness.proofs.EachRecord.{passes-at}
use Rattle.soundness.proofs.Searched.{sum-is}
use Rattle.std.specs.declared.ops.Range.{Range}
use Rattle.std.proofs.lemmas.Iterator.{YieldsList-from_range, YieldsList-from_map, serves_from_Range}
use Rattle.std.proofs.lemmas.Iterator.Adapters.{at_most_from_yields_List, fits_from_length}
use Rattle.std.proofs.lemmas.Iterator.Consumers.{sum_from_yields_List}
use Rattle.std.proofs.lemmas.List.FromFn.{length-range_with_len, fill_by_all}
use Rattle.ranks.specs.Lists.{map_with_index, sum_of}
use Rattle.ranks.proofs.Lists.{at-mapped, length-mapped}
use Rattle.records.specs.Layout.{slot_count, queue_width}
use Rattle.records.specs.Records.{free_queue}
use Rattle.records.specs.Bytes.{decode_queue, decode_queues, decode_queue_at}
use Rattle.records.proofs.Writing.{at_table, length-decoded}
use Rattle.specification.specs.Sound.{sound_queue, limits, limit_in}
use Rattle.soundness.proofs.queues.share_limits.Goals as goal

module _ (share : ℕ) (t : List ℕ) where
  abbrev limit : ℕ → ℕ
  limit i = limit_in share i (decode_queue_at i t)

  abbrev parts : List ℕ
  parts = map_with_index (limit_in share) (decode_queues t)

  size : length parts ≡ slot_count
  size = length-mapped (limit_in share) (decode_queues t) ∙ length-decoded decode_queue slot_count queue_width t

  part_at : (i : ℕ) → i < slot_count → get_or parts i 0 ≡ limit i
  part_at i h =
      at-mapped (limit_in share) (decode_queues t) i (free_queue 0) 0 (omega (arith, length-decoded decode_queue slot_count queue_width t))
      ∙ ap (limit_in share i) (at_table decode_queue slot_count queue_width t i h (free_queue 0))

  summed : sum (map limit (range_with_len 0 slot_count)) ≡ sum_of parts
  summed = sum-is (map limit (range_with_len 0 slot_count)) ∙ ap sum_of (sym (fill_by_all limit parts slot_count 0 size part_at))

pub sum-requires-clause-can : goal.sum-requires-clause-can
sum-requires-clause-can c =
    let t = c.args.queues.now in (
      tt,
      serves_from_Range (λ x q k. search rules)
          (λ i low high.
          let lt : i < slot_count = omega (arith, high, ap (λ (r : Range ℕ). r.end) c.map.ensures.source) in
          let sound : sound_queue (decode_queue_at i t) ≡ true = passes-at (λ slot q. sound_queue q) decode_queue slot_count queue_width t (free_queue 0) c.requires.1 i lt in
          search rules),
    )

pub sum-requires-clause-fits : goal.sum-requires-clause-fits
sum-requires-clause-fits c =
    fits_from_length _ _ slot_count (2 ^ 64) (at_most_from_yields_List (YieldsList-from_range 0 slot_count slot_count c.map.ensures.source refl) (omega (arith, length-range_with_len 0 slot_count))) c.map.ensures.closure (omega arith) (λ x r q k. search rules)

pub returns : goal.returns
unfolding limits
returns c =
    let t = c.args.queues.now in
    let run = c.sum.ensures.runs tt in (
      sum_from_yields_List _ _ c.sum.ensures.ran (YieldsList-from_map _ (λ i. limit_in c.args.share i (decode_queue_at i t)) (YieldsList-from_range 0 slot_count slot_count c.map.ensures.source refl) c.map.ensures.closure (λ x r q k. search rules)) ∙ summed c.args.share t,
      let small = fits_from_length _ _ slot_count 4081 (at_most_from_yields_List (YieldsList-from_range 0 slot_count slot_count c.map.ensures.source refl) (omega (arith, length-range_with_len 0 slot_count))) c.map.ensures.closure (omega arith) (λ x r q k. search rules) run.0 run.0.seen run.1 in
          omega (arith, run.3),
    )
