-- Records have the bytes that the cases name, and the bytes are read back; the share of each record; fresh tables byte by byte. Assumes nothing.
use Rattle.std.specs.Prelude.{ℕ, List, [], ◌∷◌, map, replicate}
use Rattle.ranks.specs.Lists.{map_from_index, map_with_index, first_true, numbers_from}
use Rattle.ranks.specs.Table.{slice}
use Rattle.records.specs.Split.{share_of_slot, share_of_buffer, share_of_task, share_limit}
use Rattle.records.specs.Records.{fresh, fresh_task}
use Rattle.octets.specs.LittleEndian.{from_little_endian, to_little_endian}
use Rattle.records.specs.Bytes.{decode_queue, encode_queue, decode_buffer, encode_buffer, decode_task, encode_task, encode}
use Rattle.records.specs.RecordCases.{example_queue, queue_bytes, example_buffer, buffer_bytes, example_task, task_bytes, record_cases, split_cases, fresh_task_bytes, LiteralsHold}
use mathlib.Core.Path.{◌≡◌, refl, ap}
use mathlib.Core.List.{flatten}

record-cases : map (λ k. k.actual) record_cases ≡ map (λ k. k.expected) record_cases
unfolding numbers_from to_little_endian encode_queue encode_buffer encode_task example_queue queue_bytes example_buffer buffer_bytes example_task task_bytes record_cases
record-cases = refl

split-cases : map (λ k. k.actual) split_cases ≡ map (λ k. k.expected) split_cases
unfolding numbers_from first_true share_of_slot share_of_buffer share_of_task share_limit split_cases
split-cases = refl

queue-read : decode_queue queue_bytes ≡ example_queue
unfolding slice from_little_endian decode_queue example_queue queue_bytes
queue-read = refl

buffer-read : decode_buffer buffer_bytes ≡ example_buffer
unfolding numbers_from slice decode_buffer example_buffer buffer_bytes
buffer-read = refl

task-read : decode_task task_bytes ≡ example_task
unfolding numbers_from slice from_little_endian decode_task example_task task_bytes
task-read = refl

fresh-tasks : (i : ℕ) (priorities : List ℕ) → map encode_task (map_from_index i (λ t p. fresh_task p) priorities) ≡ map fresh_task_bytes priorities
unfolding to_little_endian encode_task map_from_index fresh_task_bytes
fresh-tasks i [] = refl
fresh-tasks i (p ∷ ps) = ap (λ l. fresh_task_bytes p ∷ l) (fresh-tasks _ ps)

fresh-tables : (priorities : List ℕ)
    → encode (fresh priorities)
    ≡ record { queues = replicate 256 0; pool = replicate 8192 0; tasks = flatten (map fresh_task_bytes priorities) }
unfolding flatten map_with_index to_little_endian encode_queue encode_buffer encode fresh
fresh-tables priorities = λ i. record { queues = replicate 256 0; pool = replicate 8192 0; tasks = flatten (fresh-tasks 0 priorities i) }

pub literals-hold : LiteralsHold
literals-hold =
    record {
      records = record-cases;
      split = split-cases;
      queue-read = queue-read;
      buffer-read = buffer-read;
      task-read = task-read;
      fresh-tables = fresh-tables;
    }
