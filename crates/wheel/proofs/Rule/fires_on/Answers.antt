-- `wheel::Rule::fires_on` meets its contract. Assumes nothing.
use Rattle.std.proofs.Common.{rules}
use Rattle.std.proofs.lemmas.Iterator.Consumers.{YieldsList-from_first}
use Rattle.fields.proofs.Chains.{computes-any}
use Rattle.model.specs.Wheel.{fires_on}
use Rattle.wheel.proofs.Rule.fires_on.Goals as goal

pub returns : goal.returns
returns c = computes-any _ _ (fires_on c.args.timer) _ c.any.ensures.ran (YieldsList-from_first (λ x. x) (λ rest. rest) _ c.triggers-triggers.ensures.0) (λ x b q k. search rules)
