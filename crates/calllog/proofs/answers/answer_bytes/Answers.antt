-- `calllog::answers::answer_bytes` meets its contract. Assumes nothing.
use borrow.Author.Rules.{rules}
use Rattle.octets.specs.LittleEndian.{to_little_endian}
use Rattle.calllog.specs.CallLog.{answer_bytes}
use Rattle.calllog.proofs.answers.answer_bytes.Goals as goal

pub returns : goal.returns
unfolding answer_bytes to_little_endian
returns c = rw (c.copy_from_slice-2.ensures.after, c.copy_from_slice.ensures.after, c.to_le_bytes-2.ensures, c.to_le_bytes.ensures) (search rules)
