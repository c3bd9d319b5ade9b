-- `next::Asked::solar_minutes` meets its contract. Assumes nothing.
use mathlib.Core.Path.{◌∙◌}
use Rattle.model.specs.Eval.{solar_of}
use Rattle.next.proofs.Triggers.{at-sun, no-sun}
use Rattle.next.proofs.Asked.solar_minutes.Goals as goal

pub returns-in_err-sun : goal.returns-in_err-sun
returns-in_err-sun c = c.from_residual.ensures ∙ no-sun _ _ _ _ c.in_err-sun.was

pub returns : goal.returns
unfolding solar_of
returns c = at-sun _ _ _ _ c.in_ok-sun.was (rw c.solar_time.ensures at c.days_minutes.ensures)
