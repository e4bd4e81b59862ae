-- Lists of bytes, and records in range encode into bytes. Assumes nothing.
use Prim.Native.Nat.{ℕ, zero, suc, ◌/◌, ◌<◌}
use native.Mathlib.Nat.{not-suc-le-zero}
use native.Mathlib.Omega.{arith}
use mathlib.Core.Path.{◌≡◌, refl}
use mathlib.Core.Bool.{Bool, true, false, false≢true}
use mathlib.Core.List.{List, [], ◌∷◌, ◌++◌, map, flatten}
use lib.Dec.{ltb}
use lib.ListN.{length, get_or, take, drop, replicate}
use borrow.Author.Tests.{ltb-true}
use Rattle.ranks.specs.Lists.{all_true}
use Rattle.octets.specs.LittleEndian.{byte_values, to_little_endian}
use Rattle.records.specs.Bytes.{encode_queue, encode_buffer, encode_task, encode}
use Rattle.records.specs.Records.{Queue, Buffer, Task, State, free_queue, free_buffer, fresh_task}
use Rattle.records.specs.InRange.{AllBytes, QueueInRange, BufferInRange, TaskInRange, FieldsInRange}
use Rattle.records.proofs.DecodeEncode.{Each, each_of}

-- the elements of a lent slice of bytes
abbrev pub Slice : List ℕ → Type 0
Slice l = (i : ℕ) → get_or l i 0 < byte_values

pub bytes-lent : (l : List ℕ) → Slice l → AllBytes l
bytes-lent l b = record { below = λ i _. b i }

pub bytes-nil : AllBytes []
bytes-nil = record { below = λ i h. absurd (not-suc-le-zero h) }

pub bytes-cons : {b : ℕ} {bs : List ℕ} → b < byte_values → AllBytes bs → AllBytes (b ∷ bs)
bytes-cons {b} {bs} h k = record { below = at }
  where
    at : (i : ℕ) → i < suc (length bs) → get_or (b ∷ bs) i 0 < byte_values
    at zero lt = h
    at (suc i) lt = k.below i (omega arith)

pub bytes-head : {b : ℕ} {bs : List ℕ} → AllBytes (b ∷ bs) → b < byte_values
bytes-head h = h.below 0 (omega arith)

pub bytes-tail : {b : ℕ} {bs : List ℕ} → AllBytes (b ∷ bs) → AllBytes bs
bytes-tail h = record { below = λ i lt. h.below (suc i) (omega arith) }

pub bytes-append : {xs ys : List ℕ} → AllBytes xs → AllBytes ys → AllBytes (xs ++ ys)
bytes-append {xs = []} h k = k
bytes-append {xs = x ∷ xs} h k = bytes-cons (bytes-head h) (bytes-append (bytes-tail h) k)

pub bytes_take : (n : ℕ) {xs : List ℕ} → AllBytes xs → AllBytes (take n xs)
bytes_take zero h = bytes-nil
bytes_take (suc n) {xs = []} h = bytes-nil
bytes_take (suc n) {xs = x ∷ xs} h = bytes-cons (bytes-head h) (bytes_take n (bytes-tail h))

pub bytes_drop : (n : ℕ) {xs : List ℕ} → AllBytes xs → AllBytes (drop n xs)
bytes_drop zero h = h
bytes_drop (suc n) {xs = []} h = bytes-nil
bytes_drop (suc n) {xs = x ∷ xs} h = bytes_drop n (bytes-tail h)

pub bytes-zeros : (n : ℕ) → AllBytes (replicate n 0)
bytes-zeros zero = bytes-nil
bytes-zeros (suc n) = bytes-cons (omega arith) (bytes-zeros n)

-- a test of every number, as a fact
pub bytes-tested : (bs : List ℕ) → all_true (map (λ b. ltb b byte_values) bs) ≡ true → AllBytes bs
unfolding all_true
bytes-tested [] e = bytes-nil
bytes-tested (b ∷ bs) e = go (ltb b byte_values) refl e (bytes-tested bs)
  where
    go : (t : Bool) → ltb b byte_values ≡ t → (elim t [ true ↦ all_true (map (λ b. ltb b byte_values) bs) | false ↦ false ]) ≡ true
        → (all_true (map (λ b. ltb b byte_values) bs) ≡ true → AllBytes bs) → AllBytes (b ∷ bs)
    go true p e ih = bytes-cons (ltb-true _ _ p) (ih e)
    go false p e ih = absurd (false≢true e)

bytes-number : (k n : ℕ) → AllBytes (to_little_endian k n)
unfolding to_little_endian
bytes-number zero n = bytes-nil
bytes-number (suc k) n = bytes-cons (omega arith) (bytes-number k (n / byte_values))

-- ---- Records and tables

pub bytes-queue : (q : Queue) → QueueInRange q → AllBytes (encode_queue q)
unfolding encode_queue
bytes-queue q r =
    bytes-cons r.live (bytes-cons r.attributes (bytes-cons r.limit (bytes-cons r.max_size
    (bytes-append (bytes-append (bytes-number 2 q.generation)
    (bytes-cons r.pending (bytes-cons r.waiters (bytes-number 4 q.name)))) r.reserved.each))))

pub bytes-buffer : (m : Buffer) → BufferInRange m → AllBytes (encode_buffer m)
unfolding encode_buffer
bytes-buffer m r =
    bytes-cons r.queue (bytes-cons r.rank (bytes-cons r.message_length (bytes-append r.reserved.each r.bytes.each)))

pub bytes-task : (w : Task) → TaskInRange w → AllBytes (encode_task w)
unfolding encode_task
bytes-task w r =
    bytes-cons r.state (bytes-cons r.queue (bytes-cons r.rank (bytes-cons r.priority (bytes-cons r.status
    (bytes-cons r.message_length
    (bytes-append (bytes-append (bytes-append r.reserved.each (bytes-number 4 w.ticks_left)) r.reserved_after.each) r.receive_buffer.each))))))

bytes-records : {A : Type 0} (write : A → List ℕ) (Fit : A → Type 0) → ((a : A) → Fit a → AllBytes (write a)) → (l : List A) → Each Fit l
    → AllBytes (flatten (map write l))
unfolding flatten
bytes-records write Fit b [] h = bytes-nil
bytes-records write Fit b (a ∷ l) (f, fs) = bytes-append (b a f) (bytes-records write Fit b l fs)

module _ (s : State) (r : FieldsInRange s) where
  pub bytes-queues : AllBytes (encode s).queues
  unfolding encode
  bytes-queues =
      bytes-records encode_queue QueueInRange bytes-queue s.queues
      (each_of QueueInRange s.queues (free_queue 0) (λ i h. r.queues i (omega (arith, r.queues_length))))

  pub bytes-pool : AllBytes (encode s).pool
  unfolding encode
  bytes-pool =
      bytes-records encode_buffer BufferInRange bytes-buffer s.pool
      (each_of BufferInRange s.pool free_buffer (λ i h. r.pool i (omega (arith, r.pool_length))))

  pub bytes-tasks : AllBytes (encode s).tasks
  unfolding encode
  bytes-tasks =
      bytes-records encode_task TaskInRange bytes-task s.tasks
      (each_of TaskInRange s.tasks (fresh_task 1) (λ i h. r.tasks i (omega (arith, r.tasks_length))))
