-- `soundness::buffers::each_buffer_sound` meets its contract. Assumes nothing.
use Rattle.std.proofs.Common.{rules, arith, ◌<◌, ◌≡◌, length}
use Rattle.std.proofs.lemmas.Iterator.Adapters.{serves_from_places}
use Rattle.records.specs.Layout.{buffer_count, buffer_width}
use Rattle.records.specs.Records.{free_buffer}
use Rattle.records.specs.Bytes.{decode_buffer}
use Rattle.soundness.specs.Parts.{only_queues, buffer_tests}
use Rattle.soundness.proofs.EachRecord.{yields-records, record-of, every-chunk}
use Rattle.soundness.proofs.buffers.each_buffer_sound.Goals as goal

pub all-requires-clause-callable : goal.all-requires-clause-callable
all-requires-clause-callable c =
    let t = c.args.pool.now in
    serves_from_places (yields-records buffer_count buffer_width t (omega arith) c.requires.1 c.enumerate.result (cc) (cc) (cc)) (λ x q k. search rules)
    (λ x i lt e. let h : (x.0 < buffer_count) × (length x.1.now ≡ buffer_width) = record-of buffer_count buffer_width t c.requires.1 _ i lt e in search rules)

pub returns : goal.returns
returns c =
    let t = c.args.pool.now in
    every-chunk (buffer_tests (only_queues c.args.queues.now)) decode_buffer buffer_count buffer_width t free_buffer _ _ _ _ c.all.ensures.ran
    (yields-records buffer_count buffer_width t (omega arith) c.requires.1 c.enumerate.result (cc) (cc) (cc)) (λ x b q k. search rules)
