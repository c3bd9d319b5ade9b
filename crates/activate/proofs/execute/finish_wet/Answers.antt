-- `activate::execute::finish_wet` meets its contract. Assumes nothing.
use mathlib.Core.Path.{sym, ◌∙◌}
use Rattle.activate.proofs.Running.{has_reason, no-reason, finishes-whole, finishes-partial}
use Rattle.activate.proofs.execute.finish_wet.Goals as goal

pub returns-then-is_some : goal.returns-then-is_some
returns-then-is_some c =
    finishes-partial c.args.v.now _ _ _ c.bump.ensures _ (has_reason _ (sym c.is_some.ensures ∙ c.if-is_some.true)) c.bump-then-is_some.ensures

pub returns-else-is_some : goal.returns-else-is_some
returns-else-is_some c = finishes-whole c.args.v.now _ _ _ c.bump.ensures (no-reason _ (sym c.is_some.ensures ∙ c.if-is_some.false))
