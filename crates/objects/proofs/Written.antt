-- A queue record that was read into a value, changed there and written back. Assumes nothing.
use Prim.Native.Nat.{ℕ, ◌<◌}
use mathlib.Core.Path.{◌≡◌, ◌∙◌}
use mathlib.Core.List.{List}
use Rattle.ranks.specs.Lists.{map_with_index}
use Rattle.records.specs.Layout.{slot_count, queue_width}
use Rattle.records.specs.Records.{Queue, free_queue}
use Rattle.records.specs.Bytes.{decode_queue, decode_queues, decode_queue_at}
use Rattle.records.specs.Changes.{at_index}
use Rattle.records.proofs.Writing.{changed-as}

pub queue_changed : (queues queues' : List ℕ) (slot : ℕ) → slot < slot_count → (f : Queue → Queue) (made : Queue) → made ≡ f (decode_queue_at slot queues)
    → decode_queues queues' ≡ map_with_index (at_index slot (λ _. made)) (decode_queues queues) → decode_queues queues' ≡ map_with_index (at_index slot f) (decode_queues queues)
queue_changed queues queues' slot h f made makes written =
    written ∙ changed-as decode_queue slot_count queue_width queues slot h (free_queue 0) (λ _. made) f makes
