-- `exec::variables::panel_select` meets its contract. Assumes nothing.
use Rattle.model.specs.Actions.{run_prim}
use Rattle.exec.proofs.Follows.{hands-on}
use Rattle.exec.proofs.variables.panel_select.Goals as goal

pub returns-in_err-n : goal.returns-in_err-n
unfolding run_prim
returns-in_err-n c flat = rw (← c.value_at.ensures flat, c.in_err-n.ensures.ok_part) (hands-on _ c.from_residual.ensures.0)
