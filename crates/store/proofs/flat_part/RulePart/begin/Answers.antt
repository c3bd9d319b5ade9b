-- `store::flat_part::RulePart::begin` meets its contract. Assumes nothing.
use Rattle.store.proofs.RuleSteps.{begin-at}
use borrow.Author.Rules.{rules}
use Rattle.store.proofs.flat_part.RulePart.begin.Goals as goal

pub returns : goal.returns
returns c = (begin-at _ c.args.self.now.i _ c.at.ensures, search rules)
