-- `decimal::value_of` meets its contract. Assumes nothing.
use mathlib.Core.Path.{◌∙◌}
use native.Mathlib.Omega.{arith}
use Rattle.decimal.proofs.DigitLaws.{value-goes, value-over, value-ends}
use Rattle.decimal.proofs.value_of.Goals as goal

pub returns-in_err-checked_mul : goal.returns-in_err-checked_mul
returns-in_err-checked_mul c =
    let l = c.loop-b in
    c.from_residual.ensures ∙ value-over c.args.word.now l.b-index l.n l.invariant.1 c.loop-b-test.true (omega (arith, c.in_err-checked_mul.ensures))

pub returns-in_err-n : goal.returns-in_err-n
returns-in_err-n c =
    let l = c.loop-b in
    c.from_residual-in_err-n.ensures ∙ value-over c.args.word.now l.b-index l.n l.invariant.1 c.loop-b-test.true (omega (arith, c.in_err-n.ensures, c.in_ok-checked_mul.ensures.1, c.from.ensures, c.saturating_sub.ensures))

pub loop-b-preserved : goal.loop-b-preserved
loop-b-preserved c =
    let l = c.loop-b in
    (omega (arith, c.in_ok-n.ensures), value-goes c.args.word.now l.b-index l.n l.invariant.1 c.in_ok-n.n c.loop-b-test.true (omega (arith, c.in_ok-n.ensures.1, c.in_ok-checked_mul.ensures.1, c.from.ensures, c.saturating_sub.ensures)))

pub returns : goal.returns
returns c = value-ends _ _ _ c.loop-b.invariant.1 c.loop-b-test.false c.loop-b.invariant.0
