-- `records::task::encode_head` meets its contract. Assumes nothing.
use Prim.Native.Nat.{ℕ}
use mathlib.Core.Path.{◌≡◌, ap, ◌∙◌}
use lib.ListN.{length}
use borrow.Author.Rules.{length_unmapped, rules}
use Rattle.records.specs.Bytes.{decode_task}
use Rattle.records.proofs.Writing
use Rattle.records.proofs.task.encode_head.Goals.{Start}
use Rattle.records.proofs.task.encode_head.Goals as goal

two-reserved : (s : Start) → length s.args.h.reserved ≡ 2
two-reserved s = length_unmapped ℕ s.args.h.reserved 2 (search rules)

pub returns : goal.returns
returns c =
    ap decode_task c.copy_into.ensures ∙ Writing.head-written c.args.h c.bytes_of_u32.result c.args.r.now (two-reserved (goal.at.returns c).Start) c.bytes_of_u32.ensures
