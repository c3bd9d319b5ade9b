-- `exec::actions::prim_at` meets its contract. Assumes nothing.
use Rattle.exec.proofs.Follows.{acts}
use Rattle.exec.proofs.actions.prim_at.Goals as goal

pub returns : goal.returns
returns c flat = acts _ _ _ _ _ (c.perform_at.ensures flat) c.count_failed.ensures
