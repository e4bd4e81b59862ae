-- A byte of the pool, as a field of its buffer. Assumes nothing.
use Prim.Native.Nat.{ℕ, ◌+◌, ◌*◌}
use native.Mathlib.Omega.{arith}
use mathlib.Core.Path.{◌≡◌}
use mathlib.Core.List.{List}
use Rattle.ranks.specs.Table.{byte}
use Rattle.ranks.proofs.Table.{byte-slice}
use Rattle.records.specs.Layout.{buffer_position, buffer_length, buffer_width}
use Rattle.records.specs.Bytes.{decode_buffer, decode_buffer_at}

pub queue_read : (b : ℕ) (pool : List ℕ) → (decode_buffer_at b pool).position.queue ≡ byte (b * buffer_width + buffer_position) pool
unfolding decode_buffer
queue_read b pool = byte-slice (b * buffer_width) buffer_width pool buffer_position (omega arith)

pub length_read : (b : ℕ) (pool : List ℕ) → (decode_buffer_at b pool).message_length ≡ byte (b * buffer_width + buffer_length) pool
unfolding decode_buffer
length_read b pool = byte-slice (b * buffer_width) buffer_width pool buffer_length (omega arith)
