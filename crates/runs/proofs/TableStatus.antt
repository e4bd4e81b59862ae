-- The tests of the tables give the same verdict after each record of a log as before it. Assumes nothing.
use Prim.Native.Nat.{ℕ, suc, ◌+◌, ◌^◌, ◌≤◌, ◌<◌}
use native.Mathlib.Nat.{lt_of_lt_of_le, pow-le-pow_right}
use native.Mathlib.Omega.{arith}
use mathlib.Core.Path.{◌≡◌, refl, sym, ap, subst, ◌∙◌}
use mathlib.Core.Bool.{Bool, true, false, ◌&&◌}
use mathlib.Core.Logic.{⊎_elim}
use mathlib.Core.List.{List, [], ◌∷◌, map}
use lib.Dec.{eqb, ltb}
use lib.ListN.{length, take, drop, length-take, get_or-eq_default}
use lib.Seq.{get_or-take, get_or-drop}
use borrow.Author.Tests.{lt-ltb}
use Rattle.octets.specs.LittleEndian.{byte_values, from_little_endian}
use Rattle.std.specs.Prelude.{if◌then◌else◌, Result, Ok, Err}
use Rattle.ranks.specs.Lists.{all_true}
use Rattle.ranks.specs.Table.{slice}
use Rattle.ranks.proofs.Tests.{lt-or-ge}
use Rattle.records.specs.Bytes.{Tables}
use Rattle.records.proofs.Fits.{number_bound}
use Rattle.records.specs.Status.{status_number, verdict_status, SUCCESSFUL}
use Rattle.records.specs.declared.status.RefusalStatus.{RefusalStatus}
use Rattle.records.proofs.Statuses.{not-zero}
use Rattle.specification.specs.Answer.{Outcome, first_status}
use Rattle.specification.specs.Call.{Call, call, tick, arguments_in_range, directive_in_range, operation_in_range}
use Rattle.specification.specs.Step.{step}
use Rattle.theorems.specs.SoundTables.{SoundTables}
use Rattle.theorems.proofs.Demand2.{demand-2}
use Rattle.common_refusals.specs.Tested.{table_refusals}
use Rattle.records.proofs.ByteLists.{Slice}
use Rattle.common_refusals.proofs.FirstTests.{first-of-both, table-passed}
use Rattle.manager.proofs.Calls.{refused_call, tick-refused}
use Rattle.calllog.specs.CallLog.{record_width, operation, caller, option, size, id, ticks, limit, max_size, ◌of◌, row_of, keeps_row, call_with, read_record, message_place, message_of}
use Rattle.calllog.specs.CallLog
use Rattle.calllog.specs.declared.call.LogResult.{LogResult}
use Rattle.calllog.specs.declared.call.LogResult.TheVariants.{WellFormed, Malformed, End}
use Rattle.logged_calls.specs.LoggedCall.{directive_of, call_of, outcome_for}
use Rattle.runs.specs.Replay.{replay_found, replay_record}

-- ---- Bytes, and the numbers in them

abbrev Word : ℕ → Type 0
Word n = ltb n 4294967296 ≡ true

taken : (n : ℕ) (l : List ℕ) → Slice l → Slice (take n l)
taken n l s i =
    ⊎_elim (λ (h : i < n). subst (λ (b : ℕ). b < byte_values) (sym (get_or-take n l i 0 h)) (s i))
    (λ (h : n ≤ i). let e = get_or-eq_default (take n l) 0 {n = i} (omega (arith, length-take n l)) in omega (arith, e)) (lt-or-ge i n)

dropped : (n : ℕ) (l : List ℕ) → Slice l → Slice (drop n l)
dropped n l s i = subst (λ (b : ℕ). b < byte_values) (sym (get_or-drop n l i 0)) (s (n + i))

pub sliced : (i n : ℕ) (l : List ℕ) → Slice l → Slice (slice i n l)
unfolding slice
sliced i n l s = taken n (drop i l) (dropped i l s)

all-bytes : (l : List ℕ) → Slice l → all_true (map (λ b. ltb b byte_values) l) ≡ true
unfolding all_true
all-bytes [] s = refl
all-bytes (b ∷ l) s = rw (lt-ltb b byte_values (s 0)) (all-bytes l (λ i. s (suc i)))

word : (i n : ℕ) (r : List ℕ) → n ≤ 4 → Slice r → Word (from_little_endian (slice i n r))
unfolding slice
word i n r h s =
    let part = slice i n r in
    let fewer : length part ≤ 4 = omega (arith, length-take n (drop i r)) in
    let more : byte_values ^ length part ≤ byte_values ^ 4 = pow-le-pow_right (omega arith) fewer in
    lt-ltb (from_little_endian part) 4294967296 (lt_of_lt_of_le (number_bound part (record { below = λ k _. sliced i n r s k })) more)

-- ---- The numbers of a call are of 32 bits, and its message is of bytes

abbrev pub InRange : List ℕ → LogResult → Type 0
InRange m (WellFormed c) = arguments_in_range (call_of c m) ≡ true
InRange m Malformed = Unit {0}
InRange m End = Unit {0}

either : (m : List ℕ) (b : Bool) (x y : LogResult) → InRange m x → InRange m y → InRange m (if b then x else y)
either m true x y p q = p
either m false x y p q = q

call-in-range : (m : List ℕ) (op caller' option' size' id' ticks' limit' max_size' : ℕ) → Slice m → Word caller' → Word option' → Word id' → Word ticks' → Word limit' → Word max_size'
    → InRange m (call_with op caller' option' size' id' ticks' limit' max_size')
unfolding call_with call_of directive_of arguments_in_range directive_in_range operation_in_range all_true
call-in-range m op caller' option' size' id' ticks' limit' max_size' s c o i t l x =
    either m (eqb op 1) _ _ (rw (c, i, l, x, o))
    (either m (eqb op 2) _ _ (rw (c, i, t))
    (either m (eqb op 3) _ _ (rw (c, i))
    (either m (eqb op 4) _ _ (rw (c, i) (all-bytes (take size' m) (taken size' m s)))
    (either m (eqb op 5) _ _ (rw (c, i) (all-bytes (take size' m) (taken size' m s)))
    (either m (eqb op 6) _ _ (rw (c, i) (all-bytes (take size' m) (taken size' m s)))
    (either m (eqb op 7) _ _ (rw (c, i, o, t))
    (either m (eqb op 8) _ _ (rw (c, i))
    (either m (eqb op 9) _ _ (rw (c, i))
    (either m (eqb op 10) _ Malformed refl tt)))))))))

pub record-in-range : (r : List ℕ) → Slice r → InRange (message_of r) (read_record r)
unfolding read_record CallLog.call_in
record-in-range r s =
    either (message_of r) (eqb (length r) record_width && keeps_row (row_of (operation of r)) r) (CallLog.call_in r) Malformed
    (call-in-range (message_of r) (operation of r) (caller of r) (option of r) (size of r) (id of r) (ticks of r) (limit of r) (max_size of r) (dropped message_place r s)
    (word 1 1 r (omega arith) s) (word 2 1 r (omega arith) s) (word 4 4 r (omega arith) s) (word 8 4 r (omega arith) s) (word 12 1 r (omega arith) s) (word 13 1 r (omega arith) s))
    tt

-- ---- One record of a log

module _ (t : Tables) where
  -- a call on tables that fail a test of their own changes nothing
  unchanged : (s : RefusalStatus) → status_number s ≡ first_status (table_refusals t) → (c : Call) → t ≡ (step t c).after
  unchanged s e (call caller directive) = ap (λ (o : Outcome Tables). o.after) (refused_call t caller directive s (e ∙ first-of-both (table_refusals t) _ (λ z. not-zero s (e ∙ z))))
  unchanged s e tick = ap (λ (o : Outcome Tables). o.after) (tick-refused t s e)

  module _ (bq : Slice t.queues) (bp : Slice t.pool) (bw : Slice t.tasks) where
    -- a call on tables that passed them leaves sound tables
    sound-still : (c : Call) → arguments_in_range c ≡ true → SUCCESSFUL ≡ first_status (table_refusals t) → SUCCESSFUL ≡ first_status (table_refusals (step t c).after)
    unfolding first_status
    sound-still c p e =
        let ok = table-passed t e in
        let before : SoundTables t = record {
          bytes = record { lengths = ok.0; queues = record { below = λ i _. bq i }; pool = record { below = λ i _. bp i }; tasks = record { below = λ i _. bw i } };
          is_sound = ok.1;
        } in
        let after = demand-2.sound-stays t c before p in
        rw (after.bytes.lengths, after.is_sound)

    pub verdict-stays : (v : Result Unit RefusalStatus) → verdict_status v ≡ first_status (table_refusals t) → (r : List ℕ) → Slice r
        → verdict_status v ≡ first_status (table_refusals (replay_record t r).after)
    unfolding replay_record replay_found outcome_for
    verdict-stays v e r s = go v e (read_record r) (record-in-range r s)
      where
        go : (v : Result Unit RefusalStatus) → verdict_status v ≡ first_status (table_refusals t) → (f : LogResult) → InRange (message_of r) f
            → verdict_status v ≡ first_status (table_refusals (outcome_for t f (message_of r)).after)
        go (Ok _) e (WellFormed c) p = sound-still (call_of c (message_of r)) p e
        go (Err s) e (WellFormed c) p = e ∙ ap (λ (x : Tables). first_status (table_refusals x)) (unchanged s e (call_of c (message_of r)))
        go v e Malformed p = e
        go v e End p = e
