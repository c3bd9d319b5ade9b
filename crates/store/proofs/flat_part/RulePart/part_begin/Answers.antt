-- `store::flat_part::RulePart::part_begin` meets its contract. Assumes nothing.
use native.Mathlib.Omega.{arith}
use Rattle.store.proofs.RuleSteps.{first-begin, next-begin}
use Rattle.store.proofs.flat_part.RulePart.part_begin.Goals as goal

pub returns-then-self-eq0 : goal.returns-then-self-eq0
returns-then-self-eq0 c = (first-begin c.args.self.now.store.now _ c.if-self-eq0.true, omega arith)

pub returns : goal.returns
returns c = (next-begin c.args.self.now.store.now _ _ c.if-self-eq0.false c.end.ensures.0, c.end.ensures.1)
