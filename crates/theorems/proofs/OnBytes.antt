-- A call and a run on the byte tables are the call and the run on their records. Assumes nothing.
use Prim.Native.Nat.{ℕ, ◌*◌, ◌<◌}
use native.Mathlib.Omega.{arith}
use mathlib.Core.Path.{◌≡◌, refl, sym, ap, ◌∙◌}
use mathlib.Core.Bool.{Bool, true, false, false≢true}
use mathlib.Core.List.{List, [], ◌∷◌, ◌++◌, map, flatten}
use lib.ListN.{length}
use borrow.Author.Tests.{eq-eqb}
use Rattle.std.specs.Prelude.{if◌then◌else◌}
use Rattle.ranks.specs.Lists.{all_true}
use Rattle.ranks.specs.Table.{slice, records}
use Rattle.records.specs.Layout.{queue_width, buffer_count, buffer_width, task_count, task_width, slot_count}
use Rattle.records.specs.Records.{State, queue_at, buffer_at, task_at, free_queue, free_buffer, fresh_task}
use Rattle.records.specs.Bytes.{Tables, decode_queue, encode_queue, decode_buffer, encode_buffer, decode_task, encode_task, decode, encode, right_lengths}
use Rattle.specification.specs.Answer.{Outcome, Refusal, refuse_if_any, refuse}
use Rattle.specification.specs.Call.{Call, arguments_in_range}
use Rattle.specification.specs.Step.{common_refusals, own_refusals, refusals, effect, encoded, step}
use Rattle.specification.specs.Run.{Event, run}
use Rattle.ranks.proofs.Tests.{and}
use Rattle.records.proofs.DecodeEncode.{QueueEncodable, BufferEncodable, TaskEncodable, length-queue, length-buffer, length-task, decode-encode-queue, decode-encode-buffer, decode-encode-task, Each, each_of, decode-encode-records, record-at}
use Rattle.specification.proofs.OnRecords.{call_on_records, events_on_records, state_after}
use Rattle.specification.proofs.SoundFacts.{Sized, SoundFacts}
use Rattle.theorems.proofs.Encodable.{Encodable, call_fits}
use Rattle.theorems.proofs.SoundCall.{call-sound}
use Rattle.records.proofs.DecodeEncode

-- ---- Records that fit their bytes are the records of their bytes

module _ (s : State) (z : Sized s) (f : Encodable s) where
  queues : Each QueueEncodable s.queues
  queues = each_of QueueEncodable s.queues (free_queue 0) (λ i h. f.queues i (omega (arith, z.queues)))

  pool : Each BufferEncodable s.pool
  pool =
      each_of BufferEncodable s.pool free_buffer
      (λ i h. let b = f.pool i (omega (arith, z.pool)) in record { reserved = b.reserved; bytes = b.bytes.long })

  tasks : Each TaskEncodable s.tasks
  tasks =
      each_of TaskEncodable s.tasks (fresh_task 1)
      (λ i h.
      let w = f.tasks i (omega (arith, z.tasks)) in
      record { reserved = w.reserved; ticks_left = w.ticks_left; reserved_after = w.reserved_after; receive_buffer = w.receive_buffer.long })

  pub encode-lengths : right_lengths (encode s) ≡ true
  unfolding right_lengths encode
  encode-lengths =
      and
      (and
      (eq-eqb _ _ (DecodeEncode.length-records encode_queue decode_queue queue_width QueueEncodable length-queue decode-encode-queue s.queues queues ∙ ap (λ (n : ℕ). n * queue_width) z.queues))
      (eq-eqb _ _ (DecodeEncode.length-records encode_buffer decode_buffer buffer_width BufferEncodable length-buffer decode-encode-buffer s.pool pool ∙ ap (λ (n : ℕ). n * buffer_width) z.pool)))
      (eq-eqb _ _ (DecodeEncode.length-records encode_task decode_task task_width TaskEncodable length-task decode-encode-task s.tasks tasks ∙ ap (λ (n : ℕ). n * task_width) z.tasks))

  pub decode-encode : decode (encode s) ≡ s
  unfolding decode encode
  decode-encode = λ i. record {
    queues = back encode_queue decode_queue queue_width QueueEncodable length-queue decode-encode-queue slot_count s.queues z.queues queues i;
    pool = back encode_buffer decode_buffer buffer_width BufferEncodable length-buffer decode-encode-buffer buffer_count s.pool z.pool pool i;
    tasks = back encode_task decode_task task_width TaskEncodable length-task decode-encode-task task_count s.tasks z.tasks tasks i;
  }
    where
      back : {A : Type 0} (write : A → List ℕ) (read : List ℕ → A) (n : ℕ) (Fit : A → Type 0) (size : (a : A) → Fit a → length (write a) ≡ n)
          (is : (a : A) → Fit a → read (write a) ≡ a) (k : ℕ) (l : List A) → length l ≡ k → Each Fit l
          → map read (records k n (flatten (map write l))) ≡ l
      back write read n Fit size is k l len e =
          ap (λ (m : ℕ). map read (records m n (flatten (map write l)))) (sym len) ∙ decode-encode-records write read n Fit size is l e

  -- the bytes of one record
  pub queue-bytes : (i : ℕ) → i < slot_count → slice (i * queue_width) queue_width (encode s).queues ≡ encode_queue (queue_at s i)
  unfolding encode
  queue-bytes i h = record-at encode_queue decode_queue queue_width QueueEncodable length-queue decode-encode-queue s.queues queues i (free_queue 0) (omega (arith, z.queues))

  pub buffer-bytes : (b : ℕ) → b < buffer_count → slice (b * buffer_width) buffer_width (encode s).pool ≡ encode_buffer (buffer_at s b)
  unfolding encode
  buffer-bytes b h = record-at encode_buffer decode_buffer buffer_width BufferEncodable length-buffer decode-encode-buffer s.pool pool b free_buffer (omega (arith, z.pool))

  pub task-bytes : (t : ℕ) → t < task_count → slice (t * task_width) task_width (encode s).tasks ≡ encode_task (task_at s t)
  unfolding encode
  task-bytes t h = record-at encode_task decode_task task_width TaskEncodable length-task decode-encode-task s.tasks tasks t (fresh_task 1) (omega (arith, z.tasks))

-- ---- A call

-- refusing and encoding change places
refuse-encoded : (s : State) (rs : List Refusal) (o : Outcome State) → refuse_if_any (encode s) rs (encoded o) ≡ encoded (refuse_if_any s rs o)
unfolding refuse_if_any
refuse-encoded s [] o = refl
refuse-encoded s (r ∷ rs) o = go r.holds (refuse-encoded s rs o)
  where
    go : (b : Bool) → refuse_if_any (encode s) rs (encoded o) ≡ encoded (refuse_if_any s rs o)
        → (if b then refuse (encode s) r.status else refuse_if_any (encode s) rs (encoded o)) ≡ encoded (if b then refuse s r.status else refuse_if_any s rs o)
    go true ih = refl
    go false ih = ih

module _ (s : State) (z : Sized s) (f : Encodable s) where
  pub step-on-records : (c : Call) → step (encode s) c ≡ encoded (call_on_records s c)
  unfolding step refusals refuse_if_any call_on_records
  step-on-records c = rw (encode-lengths s z f, decode-encode s z f) (refuse-encoded s (common_refusals s c ++ own_refusals s c) (effect s c))

-- ---- A run

-- the first call of a list whose arguments are in range, and the others
first-and-rest : (b : Bool) (bs : List Bool) → all_true (b ∷ bs) ≡ true → (b ≡ true) × (all_true bs ≡ true)
unfolding all_true
first-and-rest true bs e = (refl, e)
first-and-rest false bs e = absurd (false≢true e)

-- what a run on bytes from encoded records comes to
pub record RunOnRecords (s : State) (calls : List Call) : Type 0 where
  pub events : (run (encode s) calls).events ≡ events_on_records s calls
  pub tables : (run (encode s) calls).tables ≡ encode (state_after s calls)
  pub sound : SoundFacts (state_after s calls)
  pub fits : Encodable (state_after s calls)

pub run-on-records : (calls : List Call) (s : State) → SoundFacts s → Encodable s → all_true (map arguments_in_range calls) ≡ true → RunOnRecords s calls
unfolding run events_on_records state_after
run-on-records [] s g f k = record { events = refl; tables = refl; sound = g; fits = f }
run-on-records (c ∷ cs) s g f k =
    let (k₁, k₂) = first-and-rest _ _ k in
    let o = step-on-records s g.sized f c in
    let ih = run-on-records cs (call_on_records s c).after (call-sound s g c) (call_fits s g f c k₁) k₂ in
    record {
      events =
          ap (λ (r : Outcome Tables). record { call = c; answer = r.answer } ∷ (run r.after cs).events) o
          ∙ ap (λ (es : List Event). record { call = c; answer = (call_on_records s c).answer } ∷ es) ih.events;
      tables = ap (λ (r : Outcome Tables). (run r.after cs).tables) o ∙ ih.tables;
      sound = ih.sound;
      fits = ih.fits;
    }
