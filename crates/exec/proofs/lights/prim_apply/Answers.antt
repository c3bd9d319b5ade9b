-- `exec::lights::prim_apply` meets its contract. Assumes nothing.
use Rattle.model.specs.Actions.{run_prim, prim_apply}
use Rattle.exec.proofs.Follows.{hands-on}
use Rattle.exec.proofs.lights.prim_apply.Goals as goal

pub returns-in_err-scene : goal.returns-in_err-scene
unfolding run_prim prim_apply
returns-in_err-scene c e = rw c.in_err-scene.ensures.ok_part (hands-on _ c.from_residual.ensures.0)
