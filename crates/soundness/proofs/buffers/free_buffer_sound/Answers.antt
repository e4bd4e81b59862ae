-- `soundness::buffers::free_buffer_sound` meets its contract. Assumes nothing.
use Rattle.std.proofs.Common.{rules}
use Prim.Native.Nat.{ℕ}
use mathlib.Core.Path.{◌≡◌, sym, ap, ◌∙◌}
use mathlib.Core.Bool.{Bool, ◌&&◌, and-true}
use mathlib.Core.List.{List}
use lib.Dec.{eqb}
use Rattle.std.proofs.lemmas.Fn.{fold_over, slice_gives, fronts}
use Rattle.ranks.specs.Lists.{all_zero}
use Rattle.ranks.proofs.Lists.{all_cons, all_nil, zeros-nil}
use Rattle.octets.proofs.ZeroBytes.{zeros-push}
use Rattle.records.specs.Bytes.{decode_buffer}
use Rattle.specification.specs.Sound.{free_buffer_rules}
use Rattle.soundness.proofs.Searched.{all-zero}
use Rattle.soundness.proofs.buffers.free_buffer_sound.Goals as goal

pub returns : goal.returns
unfolding free_buffer_rules decode_buffer
returns c =
    fold_over fronts (λ y. y.now) _ (λ (r : List ℕ) (z : Bool). z ≡ all_zero r) _
    (λ r z b y f' is called. let (answer, same) : (y ≡ z && eqb b.now 0) × (f' ≡ tt) = search rules in (answer ∙ ap (λ (z : Bool). z && eqb b.now 0) is ∙ sym (zeros-push r b.now), same))
    c.iter.result _ _ _ (slice_gives c.iter.result) (sym zeros-nil) c.fold.ensures.ran
    ∙ ap all_zero c.iter.ensures.rest ∙ all-zero c.args.r.now c.requires.0 c.requires.1 ∙ simp (all_cons, all_nil, and-true)
