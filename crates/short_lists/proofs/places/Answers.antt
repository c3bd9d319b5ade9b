-- `short_lists::places` meets its contract. Assumes nothing.
use Rattle.short_lists.proofs.FormulaLaws.{of_none, of_one, of_two, of_three}
use Rattle.short_lists.proofs.places.Goals as goal

pub returns-then-k-eq0 : goal.returns-then-k-eq0
returns-then-k-eq0 c = of_none _ _ c.requires.2 c.if-k-eq0.true

pub returns-then-one-n : goal.returns-then-one-n
returns-then-one-n c = of_one _ _ c.requires.2 c.if-k-eq0.false c.if-one-n.true

pub returns-then-two-square : goal.returns-then-two-square
returns-then-two-square c = of_two _ _ c.requires.2 c.if-k-eq0.false c.if-one-n.false c.if-two-square.true

pub returns : goal.returns
returns c = of_three _ _ c.requires.2 c.if-k-eq0.false c.if-one-n.false c.if-two-square.false
