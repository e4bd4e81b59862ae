-- `coremsg::messages::lowest_free_buffer` meets its contract. Assumes nothing.
use Prim.Native.Nat.{◌+◌}
use native.Mathlib.Omega.{arith}
use mathlib.Core.Path.{sym, ap, ◌∙◌}
use mathlib.Core.Bool.{Bool, ◌&&◌, and-false}
use lib.Dec.{eqb, ltb}
use borrow.Author.Tests.{lt-leb}
use Rattle.std.proofs.Common.{rules, tests}
use Rattle.records.specs.Layout.{buffer_count, buffer_width}
use Rattle.records.specs.Split.{share_of_buffer, first_buffer, share_limit}
use Rattle.records.specs.Records.{free_buffer}
use Rattle.records.specs.Bytes.{decode_buffer, decode_buffer_at}
use Rattle.records.proofs.Tabled.{buffers-end, share-buffers}
use Rattle.specification.specs.Submit.{is_free_of}
use Rattle.objects.proofs.Searches.{swapped, found-from}
use Rattle.coremsg.proofs.messages.lowest_free_buffer.Goals as goal

pub returns : goal.returns
returns c =
    let a = c.args in
    found-from decode_buffer free_buffer buffer_count buffer_width (is_free_of a.share) a.pool.now c.first_buffer.result
    (λ j lt.
    ap (λ (b : Bool). eqb (decode_buffer_at j a.pool.now).position.queue 0 && b)
    (swapped (share_of_buffer j) a.share ∙ sym (share-buffers a.share j c.requires.1 (omega (arith, buffers-end a.share c.requires.1))) ∙ ap (λ (b : Bool). b && ltb j (first_buffer a.share + share_limit a.share)) (lt-leb (first_buffer a.share) j (omega (arith, c.first_buffer.ensures))))
    ∙ and-false (eqb (decode_buffer_at j a.pool.now).position.queue 0))
    _ _ _ c.find.ensures.ran (λ x b q k. search (rules, tests))
