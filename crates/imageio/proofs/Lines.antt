-- Laws of the lines of a list, and of what is printed of a comparison. Assumes nothing.
use Prim.Native.Nat.{ℕ, zero, suc, ◌+◌, ◌<◌, ◌≤◌}
use native.Mathlib.Omega.{arith}
use native.Mathlib.Numerals.{add-one}
use mathlib.Core.Path.{◌≡◌, sym, ap, ◌∙◌}
use mathlib.Core.Bool.{Bool, true, false, not}
use mathlib.Core.Logic.{◌⊎◌, inl, inr}
use mathlib.Core.List.{List, [], ◌∷◌, ◌++◌, flatten, append_assoc, append-nil}
use lib.Dec.{eqb}
use lib.ListN.{length, take, get_or}
use borrow.Author.Tests.{eq-eqb, ne_eqb}
use Rattle.std.specs.Prelude.{if◌then◌else◌}
use Rattle.ranks.proofs.Tests.{either}
use Rattle.records.specs.Layout.{image_record_count}
use Rattle.records.specs.Status.{SUCCESSFUL, BAD-SHAPE}
use Rattle.specification.specs.Answer.{Outcome, ◌⇒◌, refuse_if_any}
use Rattle.differences.specs.Differences.{differences, comparable, refusals, list_filled, compared, blanks}
use Rattle.differences.specs.Comparisons.{list_outcome}
use Rattle.differences.specs.declared.answer.Answer.{Answer}
use Rattle.differences.specs.declared.difference.Difference.{Difference}
use Rattle.differences.proofs.Entries.{few}
use Rattle.imageio.specs.Printed.{newline, number_then, line, lines_of, printed, printed_of}

-- the line of the next entry comes behind those of the first
one_more : (ds : List Difference) (i : ℕ) (d : Difference) → i < length ds → lines_of (take (suc i) ds) ≡ lines_of (take i ds) ++ line (get_or ds i d)
unfolding flatten
one_more [] i d h = absurd (omega arith)
one_more (e ∷ ds) zero d h = append-nil (line e)
one_more (e ∷ ds) (suc i) d h = ap (λ (l : List ℕ). line e ++ l) (one_more ds i d (omega arith)) ∙ sym (append_assoc (line e) (lines_of (take i ds)) (line (get_or ds i d)))

pub next-line : (ds : List Difference) (i : ℕ) (d : Difference) (text : List ℕ) → text ≡ lines_of (take i ds) → i < length ds → text ++ line (get_or ds i d) ≡ lines_of (take (i + 1) ds)
next-line ds i d text e h = ap (λ (t : List ℕ). t ++ line (get_or ds i d)) e ∙ sym (ap (λ (k : ℕ). lines_of (take k ds)) (add-one i) ∙ one_more ds i d h)

-- ---- What is printed, from what a comparison answers and the list that it leaves

-- refused or not, as the two images and the list are
by_shape : (one two : List ℕ) (list : List Difference) (b : Bool) → comparable one two (length list) ≡ b
    → compared one two list ≡ refuse_if_any list ((not b ⇒ BAD-SHAPE) ∷ []) (list_filled (differences one two) list)
unfolding compared refusals
by_shape one two list b g = ap (λ (t : Bool). refuse_if_any list ((not t ⇒ BAD-SHAPE) ∷ []) (list_filled (differences one two) list)) g

module _ (one two : List ℕ) (a : Answer) (es : List Difference) (e : list_outcome a es ≡ compared one two blanks) where
  abbrev status : Outcome (List Difference) → ℕ
  status o = o.answer.status

  abbrev value : Outcome (List Difference) → ℕ
  value o = o.answer.value

  -- a refusal is 16, and else there are few entries
  refused-or-few : (a.status ≡ BAD-SHAPE) ⊎ ((a.status ≡ SUCCESSFUL) × (a.value ≤ image_record_count))
  unfolding refuse_if_any list_filled
  refused-or-few =
      elim (either (comparable one two image_record_count)) [
        | inl g ↦ let f = e ∙ by_shape one two blanks true g in inr (ap status f, omega (arith, ap value f, few one two))
        | inr g ↦ inl (ap status (e ∙ by_shape one two blanks false g))
      ]

  abbrev choose : Bool → List ℕ
  choose b = if b then lines_of (take a.value es) else number_then a.status newline

  -- what is printed, by a test of the status
  by-status : (b : Bool) → eqb a.status SUCCESSFUL ≡ b → choose b ≡ printed_of one two
  unfolding printed_of printed
  by-status b t = sym (ap choose t) ∙ ap printed e

  pub refused : (a.status ≡ SUCCESSFUL → ⊥) → number_then BAD-SHAPE newline ≡ printed_of one two
  refused n =
      elim refused-or-few [
        | inl s ↦ ap (λ (k : ℕ). number_then k newline) (sym s) ∙ by-status false (ne_eqb a.status SUCCESSFUL n)
        | inr p ↦ absurd (n p.0)
      ]

  pub listed : a.status ≡ SUCCESSFUL → (a.value ≤ image_record_count) × (lines_of (take a.value es) ≡ printed_of one two)
  listed z = (elim refused-or-few [ inl s ↦ absurd (omega (arith, z, s)) | inr p ↦ p.1 ], by-status true (eq-eqb a.status SUCCESSFUL z))
