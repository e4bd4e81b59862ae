-- What stands at a place of a log, and what is still to be replayed. Assumes nothing.
use Prim.Native.Nat.{ℕ, suc, ◌+◌, ◌*◌, ◌-◌, ◌≤◌, ◌<◌}
use native.Mathlib.Nat.{zero-add, sub-zero, suc-mul}
use native.Mathlib.Omega.{arith}
use mathlib.Core.Path.{◌≡◌, refl, sym, ap, ap₂, subst, ◌∙◌}
use mathlib.Core.Logic.{⊎_elim}
use mathlib.Core.List.{List, [], ◌∷◌, ◌++◌, append_assoc, append-nil}
use lib.ListN.{length, take, drop, length-append, length-take, length-drop, drop_of_length-le, take-append-drop}
use lib.Seq.{take_at, drop_at, drop-drop, length-take-le}
use Rattle.std.specs.Prelude.{Some}
use Rattle.ranks.specs.Table.{slice, records, spliced}
use Rattle.ranks.proofs.Table.{length-records}
use Rattle.ranks.proofs.Tests.{lt-or-ge}
use Rattle.octets.specs.LittleEndian.{to_little_endian}
use Rattle.records.specs.Bytes.{Tables}
use Rattle.calllog.specs.CallLog.{Reading, place_after, reading_at, answer_bytes, record_width, answer_width, record_count}
use Rattle.calllog.proofs.Laws.{place_inside, read_inside}
use Rattle.calllog.specs.declared.call.LogResult.{LogResult}
use Rattle.calllog.specs.declared.reader.LogReader.{LogReader}
use Rattle.calllog.specs.declared.reader.LogRecord.{LogRecord}
use Rattle.calllog.specs.Reader.{Reads}
use Rattle.runs.specs.Replay.{Replayed, replay_found, replay_record, replay_records, records_of, replayed, replayed_front}

-- ---- What the reader finds

-- At a place of a log the reader found this, and moved on to the next place.
pub record Found (log : List ℕ) (at : ℕ) (bytes : List ℕ) (result : LogResult) (next : ℕ) : Type 0 where
  pub inside : at < length log
  pub part : bytes ≡ slice at record_width log
  pub reading : (record { result = result; next = next }) ≡ reading_at log at

pub found_by : (log : List ℕ) (s t : LogReader) (x : LogRecord) → s.log.now ≡ log → Reads s (Some x) t → Found log s.at x.bytes.now x.result t.at
found_by log s t x same reads =
    subst (λ (l : List ℕ). Found l s.at x.bytes.now x.result t.at) same (record { inside = reads.1.0; part = reads.1.1; reading = reads.1.2 })

-- ---- The records from a place on

module _ (log : List ℕ) (at : ℕ) (h : at < length log) where
  -- this one, and those from the next place on
  count-is : record_count (length log - at) ≡ suc (record_count (length log - place_after log at))
  unfolding record_count
  count-is = omega (arith, place_inside log at h)

  dropped : drop record_width (drop at log) ≡ drop (place_after log at) log
  dropped =
      drop-drop record_width at log
      ∙ ⊎_elim
      (λ (g : length log < at + record_width). drop_of_length-le log {i = at + record_width} (omega arith) ∙ sym (drop_of_length-le log {i = place_after log at} (omega (arith, place_inside log at h))))
      (λ (g : at + record_width ≤ length log). let same : at + record_width ≡ place_after log at = omega (arith, place_inside log at h) in ap (λ (n : ℕ). drop n log) same)
      (lt-or-ge (length log) (at + record_width))

  records-from : records_of (drop at log) ≡ slice at record_width log ∷ records_of (drop (place_after log at) log)
  unfolding records_of slice records
  records-from =
      let next = place_after log at in
      let count : record_count (length (drop at log)) ≡ suc (record_count (length (drop next log))) =
      ap record_count (length-drop at log) ∙ count-is ∙ ap (λ (n : ℕ). suc (record_count n)) (sym (length-drop next log)) in
      ap (λ (k : ℕ). records k record_width (drop at log)) count ∙ ap (λ (l : List ℕ). take record_width (drop at log) ∷ records (record_count (length (drop next log))) record_width l) dropped

module _ (log : List ℕ) (at : ℕ) (bytes : List ℕ) (result : LogResult) (next : ℕ) (found : Found log at bytes result next) where
  pub some-byte : 0 < length bytes
  unfolding slice
  some-byte = let l = ap length found.part ∙ length-take record_width (drop at log) in omega (arith, l, length-drop at log, found.inside)

  -- what was found, replayed
  pub record-replayed : (t : Tables) → replay_found t result bytes ≡ replay_record t (slice at record_width log)
  unfolding replay_record
  record-replayed t = ap₂ {C = Replayed} (replay_found t) (ap (λ (x : Reading). x.result) found.reading ∙ read_inside log at found.inside) found.part

-- ---- What is still to be replayed

-- The log is replayed up to `at`: the answer records stand in the lent bytes up to `to`, and the tables are `t`.
pub record ReplayedTo (t₀ : Tables) (log lent : List ℕ) (t : Tables) (answers : List ℕ) (at to : ℕ) : Type 0 where
  pub inside : at ≤ length log
  pub room : to + record_count (length log - at) * answer_width ≤ length lent
  pub size : length answers ≡ length lent
  pub behind : drop to answers ≡ drop to lent
  pub front : take to answers ++ (replayed t (drop at log)).answers ≡ (replayed t₀ log).answers
  pub after : (replayed t (drop at log)).after ≡ (replayed t₀ log).after

length-answers : (t : Tables) (r : List ℕ) → length (replay_record t r).answers ≡ answer_width
unfolding replay_record replay_found answer_bytes to_little_endian
length-answers t r = refl

-- the answer records have 16 bytes each
records-answered : (t : Tables) (rs : List (List ℕ)) → length (replay_records t rs).answers ≡ length rs * answer_width
unfolding replay_records
records-answered t [] = refl
records-answered t (r ∷ rs) =
    let one = replay_record t r in
    let rest = records-answered one.after rs in
    length-append one.answers (replay_records one.after rs).answers ∙ omega (arith, length-answers t r, rest, suc-mul (length rs) answer_width)

pub answers-size : (t : Tables) (log : List ℕ) → length (replayed t log).answers ≡ record_count (length log) * answer_width
unfolding replayed records_of
answers-size t log =
    records-answered t (records_of log) ∙ ap (λ (k : ℕ). k * answer_width) (length-records (record_count (length log)) record_width log)

module _ (t₀ : Tables) (log lent : List ℕ) where
  pub none-replayed : record_count (length log) * answer_width ≤ length lent → ReplayedTo t₀ log lent t₀ lent 0 0
  none-replayed room =
      record { inside = omega arith; room = rw (sub-zero (length log), zero-add) room; size = refl; behind = refl; front = refl; after = refl }

  module _ (t : Tables) (answers : List ℕ) (at to : ℕ) (before : ReplayedTo t₀ log lent t answers at to) where
    -- the answer record of a record that is left has room
    pub room-for-one : at < length log → to + answer_width ≤ length answers
    room-for-one h = omega (arith, before.room, before.size, count-is log at h)

    pub one-more-replayed : (bytes : List ℕ) (result : LogResult) (next : ℕ) → Found log at bytes result next
        → (a : List ℕ) (t' : Tables) → (record { answers = a; after = t' }) ≡ replay_found t result bytes → (n : ℕ) → n ≡ answer_width
        → ReplayedTo t₀ log lent t' (take to answers ++ (a ++ drop n (drop to answers))) next (to + answer_width)
    unfolding replayed replay_records
    one-more-replayed bytes result next found a t' d n whole =
        let h = found.inside in
        let to-next : next ≡ place_after log at = ap (λ (x : Reading). x.next) found.reading in
        let one : (record { answers = a; after = t' }) ≡ replay_record t (slice at record_width log) = d ∙ record-replayed log at bytes result next found t in
        let answered : length a ≡ answer_width = ap (λ (x : Replayed). length x.answers) one ∙ length-answers t (slice at record_width log) in
        let in_front : length (take to answers) ≡ to = length-take-le to answers (omega (arith, room-for-one h)) in
        let rest : Replayed = replayed t' (drop next log) in
        let is : replayed t (drop at log) ≡ (record { answers = a ++ rest.answers; after = rest.after }) =
        ap (replay_records t) (records-from log at h)
        ∙ (λ j. let r = sym one j in let x = replayed r.after (drop (sym to-next j) log) in record { answers = r.answers ++ x.answers; after = x.after }) in
        let behind : drop n (drop to answers) ≡ drop (to + answer_width) lent = ap₂ {C = List ℕ} drop whole before.behind ∙ drop-drop answer_width to lent in
        let size : length (take to answers ++ a) ≡ to + answer_width = length-append (take to answers) a ∙ omega arith in
        let apart : take to answers ++ (a ++ drop n (drop to answers)) ≡ (take to answers ++ a) ++ drop n (drop to answers) =
        sym (append_assoc (take to answers) a (drop n (drop to answers))) in
        record {
          inside = omega (arith, place_inside log at h);
          room = omega (arith, ap (λ (k : ℕ). record_count (length log - k)) to-next, before.room, count-is log at h);
          size = ap length apart ∙ length-append (take to answers ++ a) (drop n (drop to answers)) ∙ omega (arith, before.size, ap length behind, length-drop (to + answer_width) lent, room-for-one h);
          behind = ap (drop (to + answer_width)) apart ∙ drop_at (take to answers ++ a) (drop n (drop to answers)) (to + answer_width) size ∙ behind;
          front =
              ap (λ (l : List ℕ). take (to + answer_width) l ++ rest.answers) apart
              ∙ ap (λ (l : List ℕ). l ++ rest.answers) (take_at (take to answers ++ a) (drop n (drop to answers)) (to + answer_width) size)
              ∙ append_assoc (take to answers) a rest.answers ∙ sym (ap (λ (x : Replayed). take to answers ++ x.answers) is) ∙ before.front;
          after = sym (ap (λ (x : Replayed). x.after) is) ∙ before.after;
        }

    pub all-replayed : length log ≤ at → (to ≡ length (replayed t₀ log).answers) × ((record { answers = answers; after = t }) ≡ replayed_front t₀ log lent)
    unfolding replayed_front replayed replay_records records_of record_count records spliced
    all-replayed h =
        let none : drop at log ≡ [] = drop_of_length-le log {i = at} (omega arith) in
        let front : take to answers ≡ (replayed t₀ log).answers =
        sym (ap (λ (l : List ℕ). take to answers ++ (replayed t l).answers) none ∙ append-nil (take to answers)) ∙ before.front in
        let size : length (replayed t₀ log).answers ≡ to = ap length (sym front) ∙ length-take-le to answers (omega (arith, before.size, before.room)) in
        let whole : answers ≡ (replayed t₀ log).answers ++ drop (0 + length (replayed t₀ log).answers) lent =
        sym (take-append-drop to answers) ∙ ap₂ {C = List ℕ} ◌++◌ front (before.behind ∙ ap (λ (n : ℕ). drop n lent) (sym (zero-add _ ∙ size))) in
        let tables : t ≡ (replayed t₀ log).after = sym (ap (λ (l : List ℕ). (replayed t l).after) none) ∙ before.after in
        (sym size, λ j. record { answers = whole j; after = tables j })
