-- `exec::timers::timer_restart` meets its contract. Assumes nothing.
use Rattle.model.specs.Actions.{arm_timer, run_prim}
use Rattle.state.specs.Meaning.{meaning}
use Rattle.eval.specs.Answers.{env_of}
use Rattle.exec.proofs.Follows.{follows}
use Rattle.exec.proofs.timers.timer_restart.Goals as goal

pub returns : goal.returns
unfolding run_prim
returns c image flat =
    let a = c.args in
    let d = follows (arm_timer (env_of a.env.now.snapshot.now image flat) a.env.now.job (meaning a.v.now).rest a.timer a.ms) _ _ _ _ c.cancel_timer.ensures (c.arm_timer.ensures image flat _) in
    rw c.if-env.false (rw c.if-env.false at d)
