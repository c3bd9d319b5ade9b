-- `eval::conditions::conditions_hold` meets its contract. Assumes nothing.
use mathlib.Core.Path.{ap, ◌∙◌}
use Rattle.std.specs.Prelude.{Some}
use native.Mathlib.Omega.{arith}
use Rattle.eval.proofs.Holding.{unknown, holds, fails, stops, ends}
use Rattle.eval.proofs.conditions.conditions_hold.Goals as goal

pub returns-in_err-condition : goal.returns-in_err-condition
returns-in_err-condition c = λ flat.
    c.from_residual.ensures
    ∙ unknown _ _ _ _ (c.loop-k.invariant flat) (omega (arith, c.loop-k-test.true, c.condition_count-n.ensures)) c.condition_at.ensures c.in_err-condition.was

pub returns-in_err-holds : goal.returns-in_err-holds
returns-in_err-holds c = λ flat.
    c.from_residual-in_err-holds.ensures
    ∙ stops _ _ _ _ (c.loop-k.invariant flat) (omega (arith, c.loop-k-test.true, c.condition_count-n.ensures)) c.condition_at.ensures c.in_ok-condition.was (c.eval_condition.ensures flat) c.in_err-holds.was

pub returns-then-not-holds : goal.returns-then-not-holds
returns-then-not-holds c = λ flat.
    fails _ _ _ _ (c.loop-k.invariant flat) (omega (arith, c.loop-k-test.true, c.condition_count-n.ensures)) c.condition_at.ensures c.in_ok-condition.was (c.eval_condition.ensures flat)
    (c.in_ok-holds.was ∙ ap Some c.if-not-holds.true)

pub loop-k-preserved : goal.loop-k-preserved
loop-k-preserved c = λ flat.
    holds _ _ _ _ (c.loop-k.invariant flat) (omega (arith, c.loop-k-test.true, c.condition_count-n.ensures)) c.condition_at.ensures c.in_ok-condition.was (c.eval_condition.ensures flat)
    (c.in_ok-holds.was ∙ ap Some c.if-not-holds.false)

pub returns : goal.returns
returns c = λ flat. ends _ _ _ _ (c.loop-k.invariant flat) (omega (arith, c.loop-k-test.false, c.condition_count-n.ensures))
