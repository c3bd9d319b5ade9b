-- `engine::sets::kept_of` meets its contract. Assumes nothing.
use Rattle.engine.proofs.LoadedLaws.{activation-kept, position-kept}
use Rattle.engine.proofs.sets.kept_of.Goals as goal

pub returns-in-Some-clause-activation : goal.returns-in-Some-clause-activation
returns-in-Some-clause-activation c = activation-kept _ c.args.store.now c.words.ensures _ _ c.rule_in.ensures _ c.in-Some.is _ c.kept_of_rule.ensures.activation

pub returns-in-Some-clause-position : goal.returns-in-Some-clause-position
returns-in-Some-clause-position c = position-kept _ c.args.store.now c.words.ensures _ _ c.rule_in.ensures _ c.in-Some.is _ c.kept_of_rule.ensures.position
