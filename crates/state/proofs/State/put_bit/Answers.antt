-- `state::State::put_bit` meets its contract. Assumes nothing.
use native.Mathlib.Omega.{arith}
use Rattle.state.proofs.KeptForRules.{bit-put, bit_past}
use Rattle.state.proofs.Follows.{means}
use Rattle.state.proofs.State.put_bit.Goals as goal

pub returns-then-i-rule_count : goal.returns-then-i-rule_count
returns-then-i-rule_count c =
    rw (← c.self.view_is) (means (bit-put _ c.self.invariant _ _ _ (omega (arith, c.rule_count.ensures.0, c.if-i-rule_count.true)) c.put.ensures))

pub returns-else-i-rule_count : goal.returns-else-i-rule_count
returns-else-i-rule_count c =
    rw (← c.self.view_is) (means (bit_past _ c.self.invariant _ _ (omega (arith, c.rule_count.ensures.0, c.if-i-rule_count.false))))

pub invariant_of-self : goal.invariant_of-self
invariant_of-self c = (bit-put _ c.self.invariant _ _ _ (omega (arith, c.rule_count.ensures.0, c.if-i-rule_count.true)) c.put.ensures).sound
