-- `records::queue::encode_queue` meets its contract. Assumes nothing.
use mathlib.Core.Path.{◌≡◌}
use Prim.Native.Nat.{ℕ}
use lib.ListN.{length}
use borrow.Author.Rules.{rules, length_unmapped}
use Rattle.octets.specs.LittleEndian.{to_little_endian}
use Rattle.records.specs.Bytes.{encode_queue}
use Rattle.records.proofs.DecodeEncode.{QueueEncodable, decode-encode-queue, length-queue}
use Rattle.octets.proofs.NumberBytes
use Rattle.records.proofs.queue.encode_queue.Goals.{Start}
use Rattle.records.proofs.queue.encode_queue.Goals as goal

four-spare : (s : Start) → length s.args.q.reserved ≡ 4
four-spare s = length_unmapped ℕ s.args.q.reserved 4 (search rules)

pub returns : goal.returns
unfolding encode_queue to_little_endian
returns c =
    let g = c.bytes_of_u16.ensures in
    let n = c.bytes_of_u32.ensures in
    let q = c.args.q in
    let fit : QueueEncodable q = record { generation = g.1; name = n.1; reserved = four-spare (goal.at.returns c).Start } in
    (rw (g.0, n.0, ← NumberBytes.all-four q.reserved (four-spare (goal.at.returns c).Start)), (decode-encode-queue q fit, length-queue q fit))
