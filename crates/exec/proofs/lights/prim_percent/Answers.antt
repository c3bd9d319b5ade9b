-- `exec::lights::prim_percent` meets its contract. Assumes nothing.
use Rattle.model.specs.Actions.{run_prim}
use Rattle.exec.proofs.Follows.{hands-on}
use Rattle.exec.proofs.lights.prim_percent.Goals as goal

pub returns-in_err-level : goal.returns-in_err-level
unfolding run_prim
returns-in_err-level c flat = rw (← c.level_at.ensures flat, c.in_err-level.ensures.ok_part) (hands-on _ c.from_residual.ensures.0)
