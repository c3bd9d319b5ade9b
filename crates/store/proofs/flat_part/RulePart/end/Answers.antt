-- `store::flat_part::RulePart::end` meets its contract. Assumes nothing.
use Rattle.store.proofs.RuleSteps.{end-at}
use borrow.Author.Rules.{rules}
use Rattle.store.proofs.flat_part.RulePart.end.Goals as goal

pub returns : goal.returns
returns c = (end-at _ c.args.self.now.i _ _ c.begin.ensures.0 c.at.ensures, search rules)
