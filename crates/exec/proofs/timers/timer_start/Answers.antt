-- `exec::timers::timer_start` meets its contract. Assumes nothing.
use mathlib.Core.Path.{sym, ◌∙◌}
use Rattle.model.specs.Actions.{run_prim}
use Rattle.exec.proofs.timers.timer_start.Goals as goal

pub returns : goal.returns
unfolding run_prim
returns c image flat = rw (sym c.has_timer.ensures ∙ c.if-has_timer.false) (c.arm_timer.ensures image flat _)
