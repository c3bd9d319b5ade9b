-- `store::flat_part::RulePart::own` meets its contract. Assumes nothing.
use mathlib.Core.Path.{◌∙◌}
use Rattle.store.proofs.RuleSteps.{own_is}
use Rattle.store.proofs.flat_part.RulePart.own.Goals as goal

pub returns : goal.returns
returns c = λ fs p h. c.saturating_sub.ensures ∙ own_is c.args.self.now.store.now fs p c.args.self.now.i h _ _ c.part_begin.ensures.0 c.begin.ensures.0
