-- Fresh tables, as the code makes them. Assumes nothing.
use Prim.Native.Nat.{ℕ}
use mathlib.Core.Path.{◌≡◌, refl, sym, ap, ◌∙◌}
use mathlib.Core.Bool.{true}
use mathlib.Core.List.{List}
use lib.ListN.{length, replicate}
use lib.Dec.{eqb}
use borrow.Author.Tests.{eqb-true}
use Rattle.ranks.specs.Lists.{within, every}
use Rattle.ranks.proofs.Tests.{both}
use Rattle.ranks.specs.Table.{slice, records}
use Rattle.records.specs.Records.{free_queue, free_buffer, fresh_tasks, fresh}
use Rattle.octets.specs.LittleEndian.{from_little_endian}
use Rattle.records.specs.Bytes.{tables, decode_queue, decode_buffer, decode_queues, decode_pool, decode_tasks, decode, encode, right_lengths}
use Rattle.records.specs.Layout.{slot_count, queues_size, buffer_count, pool_size, task_count}
use Rattle.records.proofs.ByteLists.{Slice, bytes-lent, bytes-zeros}
use Rattle.records.proofs.EncodeDecode.{lengths, encode-decode}
use Rattle.specification.specs.Run.{good_priorities, fresh_tables}

-- priorities are of 32 tasks
pub right-count : (ps : List ℕ) → good_priorities ps ≡ true → length ps ≡ task_count
unfolding good_priorities
right-count ps good = eqb-true (length ps) task_count (both (eqb (length ps) task_count) (every (λ t p. within 1 255 p) ps) good).0

free-queues : decode_queues (replicate queues_size 0) ≡ replicate slot_count (free_queue 0)
unfolding decode_queue records slice from_little_endian
free-queues = refl

free-buffers : decode_pool (replicate pool_size 0) ≡ replicate buffer_count free_buffer
unfolding decode_buffer records slice
free-buffers = refl

module _ (q p w ps q' p' w' : List ℕ) (right : right_lengths (tables q p w) ≡ true)
    (queues : q' ≡ replicate (length q) 0) (pool : p' ≡ replicate (length p) 0) (tasks : decode_tasks w' ≡ fresh_tasks ps)
    (size : length w' ≡ length w) (bytes : Slice w') where
  zero-queues : q' ≡ replicate queues_size 0
  zero-queues = queues ∙ ap (λ (n : ℕ). replicate n 0) (lengths (tables q p w) right).0

  zero-pool : p' ≡ replicate pool_size 0
  zero-pool = pool ∙ ap (λ (n : ℕ). replicate n 0) (lengths (tables q p w) right).1

  as_bytes : encode (decode (tables (replicate queues_size 0) (replicate pool_size 0) w')) ≡ tables (replicate queues_size 0) (replicate pool_size 0) w'
  unfolding right_lengths
  as_bytes =
      encode-decode (tables (replicate queues_size 0) (replicate pool_size 0) w')
      (record {
        lengths = rw (size, (lengths (tables q p w) right).2) refl;
        queues = bytes-zeros queues_size;
        pool = bytes-zeros pool_size;
        tasks = bytes-lent w' bytes;
      })

  pub fresh-written : tables q' p' w' ≡ fresh_tables ps
  unfolding fresh_tables fresh decode
  fresh-written =
      (λ i. tables (zero-queues i) (zero-pool i) w')
      ∙ sym as_bytes
      ∙ ap encode (λ i. record { queues = free-queues i; pool = free-buffers i; tasks = tasks i })
