-- Byte tables of the right lengths are the bytes of their records, sound or not. Assumes nothing.
use Prim.Native.Nat.{ℕ, zero, suc, ◌+◌, ◌*◌, ◌/◌, ◌%◌, ◌≤◌, ◌<◌}
use native.Mathlib.Omega.{arith}
use native.Mathlib.Numerals.{add-one}
use mathlib.Core.Path.{◌≡◌, refl, sym, ap, ap₂, ◌∙◌, subst}
use mathlib.Core.Bool.{true, ◌&&◌}
use mathlib.Core.List.{List, [], ◌∷◌, ◌++◌, map, flatten}
use lib.Dec.{eqb}
use lib.ListN.{length, take, drop, take-append-drop, length-drop, length-take}
use lib.Seq.{take_all, drop-cons}
use borrow.Author.Tests.{eqb-true}
use Rattle.records.proofs.ByteLists.{bytes-head, bytes-tail, bytes_take, bytes_drop}
use Rattle.records.proofs.DecodeEncode.{queue-fields, task-fields}
use Rattle.octets.proofs.NumberBytes.{part-and-rest}
use Rattle.octets.specs.LittleEndian.{byte_values, from_little_endian, to_little_endian}
use Rattle.records.specs.Layout.{capacity, slot_count, queue_width, queues_size, buffer_count, buffer_width, buffer_data, pool_size, task_count, task_width, task_data, tasks_size}
use Rattle.records.specs.Bytes.{decode_queue, encode_queue, decode_buffer, encode_buffer, decode_task, encode_task, Tables, decode, encode, right_lengths}
use Rattle.records.specs.InRange.{AllBytes, ByteTables}
use Rattle.ranks.specs.Table.{slice, byte, records}
use Rattle.ranks.proofs.Tests.{both}

to-from-little-endian : (bs : List ℕ) → AllBytes bs → to_little_endian (length bs) (from_little_endian bs) ≡ bs
unfolding to_little_endian from_little_endian
to-from-little-endian [] h = refl
to-from-little-endian (b ∷ bs) h =
    let lt : b < byte_values = bytes-head h in
    let e : (b + byte_values * from_little_endian bs) % byte_values ≡ b = omega arith in
    let d : (b + byte_values * from_little_endian bs) / byte_values ≡ from_little_endian bs = omega arith in
    ap₂ {C = List ℕ} (λ (x : ℕ) (l : List ℕ). x ∷ l) e (ap (to_little_endian (length bs)) d ∙ to-from-little-endian bs (bytes-tail h))

-- ---- A record from its fields

module _ (r : List ℕ) where
  pub length-slice : (i n : ℕ) → i + n ≤ length r → length (slice i n r) ≡ n
  unfolding slice
  length-slice i n h = let d = length-drop i r in let t = length-take n (drop i r) in omega arith

  pub bytes-slice : AllBytes r → (i n : ℕ) → AllBytes (slice i n r)
  unfolding slice
  bytes-slice b i n = bytes_take n (bytes_drop i b)

-- the record from place i on, by what stands there and what follows it
module _ (r : List ℕ) {w : ℕ} (long : length r ≡ w) (b : AllBytes r) where
  -- a byte
  one : (i : ℕ) {rest : List ℕ} → i < w → rest ≡ drop (i + 1) r → ◌≡◌ {A = List ℕ} (byte i r ∷ rest) (drop i r)
  one i h e = ap (λ (l : List ℕ). byte i r ∷ l) (e ∙ ap (λ (k : ℕ). drop k r) (add-one i)) ∙ sym (drop-cons r i 0 (omega arith))

  -- n bytes
  some : (i n : ℕ) {rest : List ℕ} → rest ≡ drop (i + n) r → slice i n r ++ rest ≡ drop i r
  some i n e = ap (λ (l : List ℕ). slice i n r ++ l) e ∙ sym (part-and-rest i n r)

  -- a number of n bytes
  number : (i n : ℕ) {rest : List ℕ} → i + n ≤ w → rest ≡ drop (i + n) r → to_little_endian n (from_little_endian (slice i n r)) ++ rest ≡ drop i r
  number i n {rest} h e =
      ap (λ (l : List ℕ). l ++ rest)
      (subst (λ (k : ℕ). to_little_endian k (from_little_endian (slice i n r)) ≡ slice i n r) (length-slice r i n (omega arith)) (to-from-little-endian (slice i n r) (bytes-slice r b i n)))
      ∙ some i n e

  -- the last n bytes
  last : (i n : ℕ) → i + n ≡ w → slice i n r ≡ drop i r
  unfolding slice
  last i n e = take_all n (drop i r) (let d = length-drop i r in omega arith)

module _ (r : List ℕ) where
  encode-decode-queue : length r ≡ queue_width → AllBytes r → encode_queue (decode_queue r) ≡ r
  unfolding decode_queue
  encode-decode-queue n b =
      queue-fields (decode_queue r)
      ∙ one r n b 0 (omega arith) (one r n b 1 (omega arith) (one r n b 2 (omega arith) (one r n b 3 (omega arith) (number r n b 4 2 (omega arith)
      (one r n b 6 (omega arith) (one r n b 7 (omega arith) (number r n b 8 4 (omega arith) (last r n b 12 4 refl))))))))

  encode-decode-buffer : length r ≡ buffer_width → AllBytes r → encode_buffer (decode_buffer r) ≡ r
  unfolding decode_buffer encode_buffer
  encode-decode-buffer n b = one r n b 0 (omega arith) (one r n b 1 (omega arith) (one r n b 2 (omega arith) (some r n b 3 5 (last r n b buffer_data capacity refl))))

  encode-decode-task : length r ≡ task_width → AllBytes r → encode_task (decode_task r) ≡ r
  unfolding decode_task
  encode-decode-task n b =
      task-fields (decode_task r)
      ∙ one r n b 0 (omega arith) (one r n b 1 (omega arith) (one r n b 2 (omega arith) (one r n b 3 (omega arith) (one r n b 4 (omega arith) (one r n b 5 (omega arith)
      (some r n b 6 2 (number r n b 8 4 (omega arith) (some r n b 12 4 (last r n b task_data capacity refl)))))))))

-- ---- A table from its records

encode-decode-records : {A : Type 0} (write : A → List ℕ) (read : List ℕ → A) (n : ℕ) → ((r : List ℕ) → length r ≡ n → AllBytes r → write (read r) ≡ r)
    → (k : ℕ) (bytes : List ℕ) → length bytes ≡ k * n → AllBytes bytes → flatten (map write (map read (records k n bytes))) ≡ bytes
unfolding records flatten
encode-decode-records write read n back zero [] e b = refl
encode-decode-records write read n back zero (x ∷ bytes) e b = absurd (omega arith)
encode-decode-records write read n back (suc k) bytes e b =
    ap₂ {C = List ℕ} (λ (x y : List ℕ). x ++ y)
    (back (take n bytes) len (bytes_take n b))
    (encode-decode-records write read n back k (drop n bytes) (omega (arith, length-drop n bytes, e)) (bytes_drop n b))
    ∙ take-append-drop n bytes
  where
    long : n ≤ length bytes
    long = omega arith

    len : length (take n bytes) ≡ n
    len = omega (arith, length-take n bytes, long)

-- the lengths that `right_lengths` tests
pub lengths : (t : Tables) → right_lengths t ≡ true → (length t.queues ≡ queues_size) × (length t.pool ≡ pool_size) × (length t.tasks ≡ tasks_size)
unfolding right_lengths
lengths t e =
    let (xy, z) = both (eqb (length t.queues) queues_size && eqb (length t.pool) pool_size) (eqb (length t.tasks) tasks_size) e in
    let (x, y) = both (eqb (length t.queues) queues_size) (eqb (length t.pool) pool_size) xy in
    (eqb-true _ _ x, eqb-true _ _ y, eqb-true _ _ z)

pub encode-decode : (t : Tables) → ByteTables t → encode (decode t) ≡ t
unfolding encode decode
encode-decode t b =
    let (x, y, z) = lengths t b.lengths in
    λ i. record {
      queues = encode-decode-records encode_queue decode_queue queue_width encode-decode-queue slot_count t.queues x b.queues i;
      pool = encode-decode-records encode_buffer decode_buffer buffer_width encode-decode-buffer buffer_count t.pool y b.pool i;
      tasks = encode-decode-records encode_task decode_task task_width encode-decode-task task_count t.tasks z b.tasks i;
    }
