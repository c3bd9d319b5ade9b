-- `exec::steps::run_after` meets its contract. Assumes nothing.
use Rattle.model.specs.Exec.{exec}
use Rattle.exec.proofs.steps.run_after.Goals as goal

pub returns : goal.returns
unfolding exec
returns c image flat =
    let s = c.schedule-reason.ensures image flat in
    let g = c.goes_on.ensures c.args.v.now in
    rw (← c.body_start-body.ensures, ← c.advance-to.ensures) (record { state = s.0; effect = g.effect; reason = s.1; next = g.next })
