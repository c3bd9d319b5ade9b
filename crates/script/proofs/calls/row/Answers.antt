-- `script::calls::row` meets its contract. Assumes nothing.
use mathlib.Core.Path.{ap, ◌∙◌}
use Rattle.std.proofs.Common.{rules}
use Rattle.script.specs.Table.{Row, calls}
use Rattle.script.proofs.Numbered.{row-there, row-past}
use Rattle.script.proofs.calls.row.Goals as goal

pub returns-in-Some-clause-name : goal.returns-in-Some-clause-name
unfolding calls
returns-in-Some-clause-name c = c.shape.ensures.name ∙ ap (λ (x : Row). x.name) (row-there _ _ (search rules) (search rules))

pub returns-in-Some-clause-params : goal.returns-in-Some-clause-params
unfolding calls
returns-in-Some-clause-params c = c.shape.ensures.params ∙ ap (λ (x : Row). x.params) (row-there _ _ (search rules) (search rules))

pub returns-in-Some-clause-tail : goal.returns-in-Some-clause-tail
unfolding calls
returns-in-Some-clause-tail c = c.shape.ensures.tail ∙ ap (λ (x : Row). x.tail) (row-there _ _ (search rules) (search rules))

pub returns-in-None-clause-name : goal.returns-in-None-clause-name
returns-in-None-clause-name c = c.new.ensures.name ∙ ap (λ (x : Row). x.name) (row-past _ (search rules))

pub returns-in-None-clause-params : goal.returns-in-None-clause-params
returns-in-None-clause-params c = c.new.ensures.params ∙ ap (λ (x : Row). x.params) (row-past _ (search rules))

pub returns-in-None-clause-tail : goal.returns-in-None-clause-tail
returns-in-None-clause-tail c = c.new.ensures.tail ∙ ap (λ (x : Row). x.tail) (row-past _ (search rules))
