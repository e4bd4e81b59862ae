-- `logio::input::replay_input`. Assumes nothing.
use Rattle.std.proofs.Common.{◌≡◌, ◌+◌, ◌-◌, ◌<◌, ℕ, suc, not, refl, sym, ap, ◌∙◌, arith, rules}
use Rattle.logio.specs.Turns.{last, more, spent}
use Rattle.logio.proofs.Blocks.{in_turns}
use Rattle.logio.proofs.input.replay_input.Goals as goal

fewer : (counter : ℕ) → counter < 18446744073709551615 → 18446744073709551615 - counter ≡ suc (18446744073709551615 - (counter + 1))
fewer counter h = omega arith

pub returns-in_err-n : goal.returns-in_err-n
returns-in_err-n c = in_turns (c.loop.invariant.0 _ _ (last (fewer c.loop.counter (omega (arith, c.loop-test.true))) c.in_err-n.ensures refl (search rules)))

pub returns-then-is_last : goal.returns-then-is_last
returns-then-is_last c =
    let ended = ap not (sym c.is_last.ensures ∙ c.if-is_last.true) in
    in_turns (c.loop.invariant.0 _ _ (last (fewer c.loop.counter (omega (arith, c.loop-test.true))) c.in_ok-n.ensures ended refl))

pub loop-preserved : goal.loop-preserved
loop-preserved c =
    let goes = ap not (sym c.is_last.ensures ∙ c.if-is_last.false) in
    (λ ending left rest. c.loop.invariant.0 ending left (more (fewer c.loop.counter (omega (arith, c.loop-test.true))) c.in_ok-n.ensures goes rest), search rules, search rules, search rules)

pub returns : goal.returns
returns c = in_turns (c.loop.invariant.0 _ _ (spent (omega (arith, c.loop-test.false)) refl))
