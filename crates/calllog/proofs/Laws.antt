-- Laws of `specs/CallLog.antt`. Assumes nothing.
use Prim.Native.Nat.{ℕ, zero, suc, ◌+◌, ◌≤◌, ◌<◌, ◌-◌, min}
use native.Mathlib.Nat.{add-zero}
use native.Mathlib.Omega.{arith}
use mathlib.Core.Path.{◌≡◌, refl, sym, ap, subst, ◌∙◌}
use mathlib.Core.Bool.{Bool, true, false, ◌&&◌, ◌||◌, and_assoc, and-true, and-false}
use mathlib.Core.List.{List, [], ◌∷◌, map}
use lib.Dec.{eqb, leb}
use lib.ListN.{length, get_or, take, drop, get_or-map, get_or-eq_default, length-drop}
use lib.Seq.{drop-drop, take_all}
use borrow.Author.Tests.{eq-eqb, ne_eqb, le-ltb, lt-ltb}
use Rattle.std.specs.Prelude.{if◌then◌else◌}
use Rattle.std.proofs.lemmas.List.{take_min}
use Rattle.ranks.specs.Lists.{all_zero}
use Rattle.ranks.specs.Table.{slice, byte}
use Rattle.ranks.proofs.Lists.{all_cons, all_nil}
use Rattle.records.specs.Layout.{capacity}
use Rattle.octets.specs.LittleEndian.{from_little_endian}
use Rattle.octets.proofs.ZeroBytes.{zero_number, zeros-later}
use Rattle.calllog.specs.declared.call.Call.{Call}
use Rattle.calllog.specs.declared.call.LogResult.{LogResult}
use Rattle.calllog.specs.declared.call.LogResult.TheVariants.{WellFormed, Malformed, End}
use Rattle.calllog.specs.Operations.{row_with}
use Rattle.calllog.specs.CallLog.{message_place, record_width, Field, caller, option, size, id, ticks, limit, max_size, reserved, message, bytes_of, message_of, ◌of◌, names, rows, row_of, keeps_row, call_with, call_in, read_record, read_at, place_after}

-- a number of one byte
pub one_byte : (k : ℕ) (r : List ℕ) → from_little_endian (slice k 1 r) ≡ byte k r
unfolding slice from_little_endian
one_byte zero [] = refl
one_byte zero (b ∷ r) = add-zero b
one_byte (suc k) [] = refl
one_byte (suc k) (b ∷ r) = one_byte k r

-- ---- The rows

-- every row of the code at once: the definition's rows, computed
pub row_at : (k : ℕ) → get_or (map row_with rows) k (row_with []) ≡ row_with (row_of k)
unfolding row_of
row_at k = get_or-map row_with rows k []

-- a number that no operation has
pub row-beyond : (k : ℕ) → 11 ≤ k → row_with [] ≡ row_with (row_of k)
unfolding rows row_of
row-beyond k h = ap row_with (sym (get_or-eq_default rows [] h))

-- ---- A record that keeps its row

module _ (r : List ℕ) (whole : length r ≡ record_width) where
  to-end : bytes_of message r ≡ message_of r
  unfolding slice
  to-end = take_all capacity (message_of r) (omega (arith, length-drop message_place r))

  -- the definition's tests, one after the other
  pub each : (row : List Field) →
      ((((((((((names row caller || eqb (caller of r) 0) && (names row option || eqb (option of r) 0)) && (names row size || eqb (size of r) 0))
      && (names row id || eqb (id of r) 0)) && (names row ticks || eqb (ticks of r) 0)) && (names row limit || eqb (limit of r) 0)) && (names row max_size || eqb (max_size of r) 0))
      && (names row message || all_zero (message_of r))) && eqb (reserved of r) 0) && leb (size of r) capacity)
      && all_zero (drop (message_place + (size of r)) r) ≡ keeps_row row r
  unfolding keeps_row
  each row = simp (zero_number, to-end, drop-drop, all_cons, all_nil, and_assoc, and-true)

  -- a field that is zero has no message, and so nothing else behind it
  absorbed : (a x b c z : Bool) → (x ≡ true → z ≡ true) → ((a && b) && c) && x ≡ (((a && x) && b) && c) && z
  absorbed a true b c z f = ap (λ (y : Bool). ((a && b) && c) && y) (sym (f refl)) ∙ ap (λ (y : Bool). ((y && b) && c) && z) (sym (and-true a))
  absorbed a false b c z f = and-false _ ∙ ap (λ (y : Bool). ((y && b) && c) && z) (sym (and-false a))

  by_size : (a b c named : Bool) → ((a && b) && c) && all_zero (drop (message_place + (if named then (size of r) else 0)) r)
      ≡ (((a && (named || all_zero (message_of r))) && b) && c) && all_zero (drop (message_place + (size of r)) r)
  by_size a b c true = ap (λ (y : Bool). ((y && b) && c) && all_zero (drop (message_place + (size of r)) r)) (sym (and-true a))
  by_size a b c false =
      ap (λ (k : ℕ). ((a && b) && c) && all_zero (drop k r)) (add-zero message_place)
      ∙ absorbed a (all_zero (message_of r)) b c _ (zeros-later r message_place (message_place + (size of r)) (omega arith))

  -- the code's tests, which look at what is behind the message once
  pub keeps : (row : List Field) →
      ((((((((names row caller || eqb (caller of r) 0) && (names row option || eqb (option of r) 0)) && (names row size || eqb (size of r) 0))
      && (names row id || eqb (id of r) 0)) && (names row ticks || eqb (ticks of r) 0)) && (names row limit || eqb (limit of r) 0)) && (names row max_size || eqb (max_size of r) 0))
      && eqb (reserved of r) 0) && leb (size of r) capacity
      && all_zero (drop (message_place + (if names row message then (size of r) else 0)) r) ≡ keeps_row row r
  keeps row = by_size _ _ _ (names row message) ∙ each row

-- ---- What a record says

pub another_length : (r : List ℕ) → (length r ≡ record_width → ⊥) → read_record r ≡ Malformed
unfolding read_record
another_length r h = rw (ne_eqb (length r) record_width h) refl

either_way : (b : Bool) → (if b then Malformed else Malformed) ≡ Malformed
either_way true = refl
either_way false = refl

pub another_operation : (r : List ℕ) → (1 ≤ byte 0 r → 10 < byte 0 r) → read_record r ≡ Malformed
unfolding read_record call_in call_with
another_operation r h =
    let not : (k : ℕ) → 1 ≤ k → k ≤ 10 → eqb (byte 0 r) k ≡ false = λ k a b. ne_eqb (byte 0 r) k (λ e. omega arith) in
    rw (
      one_byte 0 r,
      not 1 (omega arith) (omega arith),
      not 2 (omega arith) (omega arith),
      not 3 (omega arith) (omega arith),
      not 4 (omega arith) (omega arith),
      not 5 (omega arith) (omega arith),
      not 6 (omega arith) (omega arith),
      not 7 (omega arith) (omega arith),
      not 8 (omega arith) (omega arith),
      not 9 (omega arith) (omega arith),
      not 10 (omega arith) (omega arith),
    ) (either_way _)

module _ (r : List ℕ) (whole : length r ≡ record_width) (k : ℕ) (e : k ≡ byte 0 r) where
  pub not_kept : keeps_row (row_of k) r ≡ false → read_record r ≡ Malformed
  unfolding read_record
  not_kept h = rw (eq-eqb (length r) record_width whole, one_byte 0 r, ← e, h) refl

  pub kept : keeps_row (row_of k) r ≡ true → read_record r ≡ call_with k (caller of r) (option of r) (size of r) (id of r) (ticks of r) (limit of r) (max_size of r)
  unfolding read_record call_in
  kept h = rw (eq-eqb (length r) record_width whole, one_byte 0 r, ← e, h) refl

-- a result that is not the end
data NotEnd : LogResult → Type 0 where
  well-formed : (c : Call) → NotEnd (WellFormed c)
  malformed : NotEnd Malformed

either : (b : Bool) (x y : LogResult) → NotEnd x → NotEnd y → NotEnd (if b then x else y)
either true x y p q = p
either false x y p q = q

call_or : (b : Bool) (c : Call) (y : LogResult) → NotEnd y → NotEnd (if b then WellFormed c else y)
call_or b c y q = either b (WellFormed c) y (well-formed c) q

call_said : (o caller option size id ticks limit max_size : ℕ) → NotEnd (call_with o caller option size id ticks limit max_size)
unfolding call_with
call_said o _ _ _ _ _ _ _ =
    call_or (eqb o 1) _ _ (call_or (eqb o 2) _ _ (call_or (eqb o 3) _ _ (call_or (eqb o 4) _ _ (call_or (eqb o 5) _ _
    (call_or (eqb o 6) _ _ (call_or (eqb o 7) _ _ (call_or (eqb o 8) _ _ (call_or (eqb o 9) _ _ (call_or (eqb o 10) _ _ malformed)))))))))

-- no record says the end
not_end : (r : List ℕ) → NotEnd (read_record r)
unfolding read_record call_in
not_end r = either _ _ _ (call_said _ _ _ _ _ _ _ _) malformed

end-is : NotEnd End → ⊥
end-is h = elim h [ ]

pub ruleset what_is_said = (another_length, another_operation, not_kept, kept)

-- ---- What a reader finds

module _ (log : List ℕ) (at : ℕ) where
  pub read_end : length log ≤ at → read_at log at ≡ End
  unfolding read_at
  read_end h = rw (le-ltb at (length log) h) refl

  pub place_end : length log ≤ at → place_after log at ≡ at
  unfolding place_after
  place_end h = rw (le-ltb at (length log) h) refl

  module _ (h : at < length log) where
    pub read_inside : read_at log at ≡ read_record (slice at record_width log)
    unfolding read_at
    read_inside = rw (lt-ltb at (length log) h) refl

    pub not_at_end : read_at log at ≡ End → ⊥
    not_at_end e = end-is (subst NotEnd (sym read_inside ∙ e) (not_end (slice at record_width log)))

    pub place_inside : place_after log at ≡ min (at + record_width) (length log)
    unfolding place_after
    place_inside = rw (lt-ltb at (length log) h) refl

    -- the bytes up to the next place
    pub part_inside : take (place_after log at - at) (drop at log) ≡ slice at record_width log
    unfolding slice
    part_inside =
        let size : place_after log at - at ≡ min record_width (length (drop at log)) = omega (arith, place_inside, length-drop at log) in
        ap (λ (n : ℕ). take n (drop at log)) size ∙ take_min record_width (drop at log)

pub ruleset what_is_found = (read_end, place_end, read_inside, not_at_end, place_inside, part_inside)
