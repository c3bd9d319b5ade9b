-- `exec::steps::run_branch` meets its contract. Assumes nothing.
use Rattle.eval.specs.Answers.{env_of}
use Rattle.exec.proofs.Follows.{does-fail}
use Rattle.exec.proofs.Stepped.{steps-as, neither-is}
use Rattle.exec.proofs.steps.run_branch.Goals as goal

pub returns-in-None : goal.returns-in-None
returns-in-None c b flat =
    steps-as (c.after_prim.ensures _ _ does-fail)
    (neither-is (env_of c.args.env.now.snapshot.now c.args.env.now.image.now flat) c.args.env.now.job b c.args.sp _ c.args.v.now c.args.c c.args.t c.args.n (rw c.given.ensures at c.in-None.ensures flat) c.advance-in-None.ensures)
