-- `state::State::is_enabled` meets its contract. Assumes nothing.
use mathlib.Core.Path.{◌∙◌}
use native.Mathlib.Omega.{arith}
use borrow.Author.Tests.{le-ltb}
use Rattle.state.proofs.KeptForRules.{bit_at, bit-none}
use Rattle.state.proofs.State.is_enabled.Goals as goal

pub returns-then-i-rule_count : goal.returns-then-i-rule_count
returns-then-i-rule_count c =
    rw (← c.self.view_is) (c.at.ensures ∙ bit_at _ c.self.invariant _ (omega (arith, c.rule_count.ensures.0, c.if-i-rule_count.true)))

pub returns-else-i-rule_count : goal.returns-else-i-rule_count
returns-else-i-rule_count c =
    rw (← c.self.view_is) (le-ltb _ _ c.if-i-rule_count.false ∙ bit-none _ c.self.invariant _ (omega (arith, c.rule_count.ensures.0, c.if-i-rule_count.false)))
