-- `imageio::text::differences_text`. Assumes nothing.
use Rattle.std.proofs.Common.{length-take-le, sym, ◌∙◌, arith}
use Rattle.imageio.proofs.Lines.{refused, listed}
use Rattle.imageio.proofs.text.differences_text.Goals as goal

pub returns-then-answer-from : goal.returns-then-answer-from
returns-then-answer-from c =
    let l = c.list_differences in
    c.number_text.ensures ∙ refused _ _ l.result.answer l.result.list l.ensures (rw c.from.ensures at c.if-answer-from.true)

pub slice_bounds-list-end : goal.slice_bounds-list-end
slice_bounds-list-end c =
    let l = c.list_differences in
    omega (arith, (listed _ _ l.result.answer l.result.list l.ensures (c.if-answer-from.false ∙ c.from.ensures)).0)

pub slice_bounds-lines_text-end : goal.slice_bounds-lines_text-end
slice_bounds-lines_text-end c =
    let l = c.list_differences in
    sym (length-take-le l.result.answer.value l.result.list (omega (arith, (listed _ _ l.result.answer l.result.list l.ensures (c.if-answer-from.false ∙ c.from.ensures)).0)))

pub returns : goal.returns
returns c =
    let l = c.list_differences in
    c.lines_text.ensures ∙ (listed _ _ l.result.answer l.result.list l.ensures (c.if-answer-from.false ∙ c.from.ensures)).1
