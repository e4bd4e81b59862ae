-- A replayed log is a run of its calls. Assumes nothing.
use Prim.Native.Nat.{ℕ, zero, suc, ◌≤◌, ◌<◌}
use native.Mathlib.Omega.{arith}
use mathlib.Core.Path.{◌≡◌, refl, sym, ap, ap₂, ◌∙◌, subst}
use mathlib.Core.Bool.{true, false}
use mathlib.Core.Logic.{◌⊎◌, inl, inr, ⊎_elim}
use mathlib.Core.List.{List, [], ◌∷◌, ◌++◌, map}
use lib.ListN.{length, take, drop, get_or-eq_default}
use Rattle.ranks.specs.Lists.{all_true}
use Rattle.ranks.specs.Table.{slice, byte, records}
use Rattle.ranks.proofs.Tests.{either, lt-or-ge}
use Rattle.octets.specs.LittleEndian.{from_little_endian, to_little_endian}
use Rattle.records.specs.Bytes.{Tables, right_lengths, decode}
use Rattle.records.specs.InRange.{AllBytes}
use Rattle.records.specs.Status.{SUCCESSFUL, WAITING, BAD-SHAPE, CORRUPT}
use Rattle.records.proofs.ByteLists.{bytes_take, bytes_drop}
use Rattle.octets.proofs.NumberBytes.{from-to-little-endian}
use Rattle.specification.specs.Answer.{Answer, Outcome, refuse}
use Rattle.specification.specs.Call.{Call, arguments_in_range}
use Rattle.specification.specs.Sound.{sound}
use Rattle.specification.specs.Step.{step}
use Rattle.specification.specs.Run.{Event, run}
use Rattle.theorems.specs.SoundTables.{SoundTables}
use Rattle.theorems.specs.Demands.{AnswerInRange}
use Rattle.theorems.proofs.Demand1.{demand-1}
use Rattle.theorems.proofs.Demand2.{demand-2}
use Rattle.records.proofs.ByteLists.{Slice}
use Rattle.calllog.specs.CallLog.{read_record, answer_bytes, record_width, message_of, answer_width, record_count}
use Rattle.calllog.specs.declared.call.LogResult.{LogResult}
use Rattle.calllog.specs.declared.call.LogResult.TheVariants.{WellFormed, Malformed, End}
use Rattle.logged_calls.specs.LoggedCall.{call_of, outcome_for, answer_record}
use Rattle.runs.specs.Replay.{Replayed, replay_found, replay_record, replay_records, records_of, replayed}
use Rattle.runs.specs.ReplayedRun.{call_said, calls_said, written_for, written, answer_in, events_from, OfBytes, ReplayIsRun}
use Rattle.runs.proofs.TableStatus.{InRange, record-in-range}

-- ---- The answers and the tables

-- what a run leaves, written
abbrev as_run : Tables → (records : List (List ℕ)) → Replayed
as_run t rs = record { answers = written rs (run t (calls_said rs)).events; after = (run t (calls_said rs)).tables }

replay-is-run : (rs : List (List ℕ)) (t : Tables) → replay_records t rs ≡ as_run t rs
unfolding replay_records replay_record replay_found outcome_for run calls_said call_said written written_for
replay-is-run [] t = refl
replay-is-run (r ∷ rs) t = go (read_record r) (replay-is-run rs)
  where
    -- an answer record, then the rest
    after : (a : Answer) (x : Replayed) → Replayed
    after a x = record { answers = answer_record a (byte 0 r) ++ x.answers; after = x.after }

    go : (f : LogResult) → ((t : Tables) → replay_records t rs ≡ as_run t rs)
        → after (outcome_for t f (message_of r)).answer (replay_records (outcome_for t f (message_of r)).after rs)
        ≡ record {
          answers = written_for f (byte 0 r) (written rs) (run t (call_said f (message_of r) ++ calls_said rs)).events;
          after = (run t (call_said f (message_of r) ++ calls_said rs)).tables;
        }
    go (WellFormed c) rest = ap (after (step t (call_of c (message_of r))).answer) (rest (step t (call_of c (message_of r))).after)
    go Malformed rest = ap (after (refuse t BAD-SHAPE).answer) (rest t)
    go End rest = ap (after (refuse t BAD-SHAPE).answer) (rest t)

-- ---- A log of bytes

abbrev pub EachOfBytes : List (List ℕ) → Type 0
EachOfBytes [] = Unit {0}
EachOfBytes (r ∷ rs) = Slice r × EachOfBytes rs

every_byte : {l : List ℕ} → AllBytes l → Slice l
every_byte {l} b i =
    ⊎_elim (λ (h : i < length l). b.below i h) (λ (h : length l ≤ i). omega (arith, get_or-eq_default l 0 {n = i} h)) (lt-or-ge i (length l))

records-of-bytes : (k : ℕ) {l : List ℕ} → AllBytes l → EachOfBytes (records k record_width l)
unfolding records
records-of-bytes zero b = tt
records-of-bytes (suc k) b = (every_byte (bytes_take record_width b), records-of-bytes k (bytes_drop record_width b))

pub log-of-bytes : (log : List ℕ) → AllBytes log → EachOfBytes (records_of log)
unfolding records_of
log-of-bytes log b = records-of-bytes (record_count (length log)) b

pub calls-in-range : (rs : List (List ℕ)) → EachOfBytes rs → all_true (map arguments_in_range (calls_said rs)) ≡ true
unfolding calls_said call_said all_true
calls-in-range [] b = refl
calls-in-range (r ∷ rs) b = go (read_record r) (record-in-range r b.0) (calls-in-range rs b.1)
  where
    go : (f : LogResult) → InRange (message_of r) f → all_true (map arguments_in_range (calls_said rs)) ≡ true
        → all_true (map arguments_in_range (call_said f (message_of r) ++ calls_said rs)) ≡ true
    go (WellFormed c) p rest = rw p rest
    go Malformed p rest = rest
    go End p rest = rest

-- ---- Tables of bytes: every answer is of 32 bits, on them and on what calls leave of them

-- tables on which every call is refused with one status
record Refusing (t : Tables) : Type 0 where
  status : ℕ
  small : status ≤ BAD-SHAPE
  refuses : (c : Call) → step t c ≡ refuse t status

Answering : Tables → Type 0
Answering t = SoundTables t ⊎ Refusing t

refused_as : (t : Tables) (c : Call) (n : ℕ) → (n ≡ SUCCESSFUL → ⊥) → (n ≡ WAITING → ⊥) → (step t c).answer.status ≡ n → step t c ≡ refuse t n
refused_as t c n a b e = demand-1.refused t c (λ z. a (sym e ∙ z)) (λ z. b (sym e ∙ z)) ∙ ap (refuse t) e

answering : (t : Tables) → OfBytes t → Answering t
unfolding Answering
answering t b = go (either (right_lengths t)) (either (sound (decode t)))
  where
    go : (right_lengths t ≡ true) ⊎ (right_lengths t ≡ false) → (sound (decode t) ≡ true) ⊎ (sound (decode t) ≡ false) → SoundTables t ⊎ Refusing t
    go (inl h) (inl s) = inl (record { bytes = record { lengths = h; queues = b.queues; pool = b.pool; tasks = b.tasks }; is_sound = s })
    go (inl h) (inr s) =
        inr (record {
          status = CORRUPT;
          small = omega arith;
          refuses = λ c. refused_as t c CORRUPT (λ z. omega arith) (λ z. omega arith) ((demand-1.corrupt t c).1 (h, s));
        })
    go (inr h) s =
        inr (record {
          status = BAD-SHAPE;
          small = omega arith;
          refuses = λ c. refused_as t c BAD-SHAPE (λ z. omega arith) (λ z. omega arith) ((demand-1.bad-shape t c).1 h);
        })

module _ (t : Tables) (c : Call) where
  answer-in-range : Answering t → AnswerInRange (step t c).answer
  unfolding Answering
  answer-in-range (inl st) = demand-2.answers t c st
  answer-in-range (inr r) =
      subst (λ (o : Outcome Tables). AnswerInRange o.answer) (sym (r.refuses c)) (record { status = r.small; value = omega arith; woken = omega arith })

  answering-still : arguments_in_range c ≡ true → Answering t → Answering (step t c).after
  unfolding Answering
  answering-still args (inl st) = inl (demand-2.sound-stays t c st args)
  answering-still args (inr r) = inr (subst (λ (o : Outcome Tables). Refusing o.after) (sym (r.refuses c)) r)

-- ---- What is written, read back

read_back : (a : Answer) (first_byte : ℕ) (rest : List ℕ) → AnswerInRange a → answer_in (take answer_width (answer_record a first_byte ++ rest)) ≡ a
unfolding answer_in answer_bytes to_little_endian from_little_endian slice
read_back a first_byte rest r =
    ap₂ {C = Answer} (λ (v w : ℕ). record { status = a.status; value = v; woken = w })
    (from-to-little-endian 4 a.value r.value) (from-to-little-endian 4 a.woken r.woken)

events-are : (rs : List (List ℕ)) (t : Tables) → Answering t → EachOfBytes rs → events_from rs (replay_records t rs).answers ≡ (run t (calls_said rs)).events
unfolding events_from replay_records replay_record replay_found outcome_for run calls_said call_said answer_bytes to_little_endian
events-are [] t k b = refl
events-are (r ∷ rs) t k b = go (read_record r) (record-in-range r b.0) (λ t' k'. events-are rs t' k' b.1)
  where
    go : (f : LogResult) → InRange (message_of r) f
        → ((t : Tables) → Answering t → events_from rs (replay_records t rs).answers ≡ (run t (calls_said rs)).events)
        → map
        (λ c. record {
          call = c;
          answer = answer_in (take answer_width (answer_record (outcome_for t f (message_of r)).answer (byte 0 r) ++ (replay_records (outcome_for t f (message_of r)).after rs).answers));
        })
        (call_said f (message_of r))
        ++ events_from rs (drop answer_width (answer_record (outcome_for t f (message_of r)).answer (byte 0 r) ++ (replay_records (outcome_for t f (message_of r)).after rs).answers))
        ≡ (run t (call_said f (message_of r) ++ calls_said rs)).events
    go (WellFormed c) p rest =
        ap₂ {C = List Event} (λ (a : Answer) (es : List Event). record { call = call_of c (message_of r); answer = a } ∷ es)
        (read_back (step t (call_of c (message_of r))).answer (byte 0 r) (replay_records (step t (call_of c (message_of r))).after rs).answers
        (answer-in-range t (call_of c (message_of r)) k))
        (rest (step t (call_of c (message_of r))).after (answering-still t (call_of c (message_of r)) p k))
    go Malformed p rest = rest t k
    go End p rest = rest t k

pub replay-run : ReplayIsRun
unfolding replayed
replay-run =
    record {
      after = λ t log. ap (λ (x : Replayed). x.after) (replay-is-run (records_of log) t);
      answers = λ t log. ap (λ (x : Replayed). x.answers) (replay-is-run (records_of log) t);
      events = λ t log b l. events-are (records_of log) t (answering t b) (log-of-bytes log l);
    }
