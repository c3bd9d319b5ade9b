-- `wheel::wall::enabled_wall` meets its contract. Assumes nothing.
use Rattle.std.proofs.Common.{rules}
use Rattle.std.proofs.lemmas.Iterator.Consumers.{YieldsList-from_first}
use Rattle.fields.proofs.Chains.{computes-any}
use Rattle.model.specs.Wheel.{is_wall_trigger}
use Rattle.wheel.proofs.Windows.{on-rule, off-rule}
use Rattle.wheel.proofs.wall.enabled_wall.Goals as goal

pub returns-then-is_enabled : goal.returns-then-is_enabled
returns-then-is_enabled c =
    on-rule _ _ _ c.is_enabled.ensures c.if-is_enabled.true
    (computes-any _ _ is_wall_trigger _ c.any.ensures.ran (YieldsList-from_first (λ x. x) (λ rest. rest) _ c.triggers.ensures.0) (λ x b q k. search rules))

pub returns-else-is_enabled : goal.returns-else-is_enabled
returns-else-is_enabled c =
    off-rule _ _ _ c.is_enabled.ensures c.if-is_enabled.false
