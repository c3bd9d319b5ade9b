-- `exec::actions::perform_at` meets its contract. Assumes nothing.
use Rattle.exec.proofs.Follows.{hands-on}
use Rattle.exec.proofs.actions.perform_at.Goals as goal

pub returns-in_err-action : goal.returns-in_err-action
returns-in_err-action c flat = rw (← c.record_at.ensures, ← c.action_of.ensures, c.in_err-action.ensures.ok_part) (hands-on _ c.from_residual.ensures.0)

pub returns : goal.returns
returns c flat = rw (← c.record_at.ensures, ← c.action_of.ensures, c.in_ok-action.ensures.ok_part) (c.perform.ensures flat)
