-- `store::volatile::kept_of_rule` meets its contract. Assumes nothing.
use Rattle.store.proofs.KeptRows.{activation-read, no-activation, position-read, no-position}
use Rattle.store.proofs.volatile.kept_of_rule.Goals as goal

pub returns-then-i-ge-MAX_RULES-clause-activation : goal.returns-then-i-ge-MAX_RULES-clause-activation
returns-then-i-ge-MAX_RULES-clause-activation c = no-activation _ _ c.if-i-ge-MAX_RULES.true

pub returns-then-i-ge-MAX_RULES-clause-position : goal.returns-then-i-ge-MAX_RULES-clause-position
returns-then-i-ge-MAX_RULES-clause-position c = no-position _ _ c.if-i-ge-MAX_RULES.true

pub returns-clause-activation : goal.returns-clause-activation
returns-clause-activation c = activation-read _ _ c.option_at-activation.result c.if-i-ge-MAX_RULES.false c.option_at-activation.ensures

pub returns-clause-position : goal.returns-clause-position
returns-clause-position c = position-read _ _ c.option_at-position.result c.if-i-ge-MAX_RULES.false c.option_at-position.ensures
