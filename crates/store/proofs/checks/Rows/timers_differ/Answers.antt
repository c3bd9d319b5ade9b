-- `store::checks::Rows::timers_differ` meets its contract. Assumes nothing.
use mathlib.Core.Path.{◌∙◌}
use Rattle.store.proofs.Rules.{timers-differ}
use Rattle.store.proofs.checks.Rows.timers_differ.Goals as goal

pub returns : goal.returns
returns c = c.names_differ.ensures ∙ timers-differ _ _ _
