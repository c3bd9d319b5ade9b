-- `exec::actions::run_prim` meets its contract. Assumes nothing.
use Rattle.exec.proofs.Follows.{acts}
use Rattle.exec.proofs.actions.run_prim.Goals as goal

pub returns : goal.returns
returns c flat = acts _ _ _ _ _ (c.perform.ensures flat) c.count_failed.ensures
