-- `exec::lights::prim_light` meets its contract. Assumes nothing.
use Rattle.model.specs.Actions.{run_prim, prim_light}
use Rattle.exec.proofs.Follows.{hands-on}
use Rattle.exec.proofs.lights.prim_light.Goals as goal

pub returns-in_err-verb : goal.returns-in_err-verb
unfolding run_prim prim_light
returns-in_err-verb c e = rw c.in_err-verb.was (hands-on _ c.from_residual.ensures.0)
