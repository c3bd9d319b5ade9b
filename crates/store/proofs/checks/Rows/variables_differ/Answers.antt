-- `store::checks::Rows::variables_differ` meets its contract. Assumes nothing.
use mathlib.Core.Path.{◌∙◌}
use Rattle.store.proofs.Rules.{variables-differ}
use Rattle.store.proofs.checks.Rows.variables_differ.Goals as goal

pub returns : goal.returns
returns c = c.names_differ.ensures ∙ variables-differ _ _ _
