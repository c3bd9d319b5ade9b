-- `exec::lights::prim_recall` meets its contract. Assumes nothing.
use Rattle.model.specs.Actions.{run_prim, prim_recall}
use Rattle.exec.proofs.Follows.{hands-on}
use Rattle.exec.proofs.lights.prim_recall.Goals as goal

pub returns-in_err-scene : goal.returns-in_err-scene
unfolding run_prim prim_recall
returns-in_err-scene c e = rw c.in_err-scene.ensures.ok_part (hands-on _ c.from_residual.ensures.0)
