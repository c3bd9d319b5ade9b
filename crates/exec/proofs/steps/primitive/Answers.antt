-- `exec::steps::primitive` meets its contract. Assumes nothing.
use Rattle.eval.specs.Answers.{env_of}
use Rattle.exec.proofs.Stepped.{steps-as, primitive-is}
use Rattle.exec.proofs.steps.primitive.Goals as goal

pub returns : goal.returns
returns c b flat =
    steps-as (c.after_prim.ensures _ _ (c.perform_at-done.ensures flat))
    (primitive-is (env_of c.args.env.now.snapshot.now c.args.env.now.image.now flat) c.args.env.now.job b c.args.here.point _ c.args.v.now c.args.i c.advance.ensures)
