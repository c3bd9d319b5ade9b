-- `exec::steps::fail` meets its contract. Assumes nothing.
use Rattle.exec.proofs.Follows.{does-fail}
use Rattle.exec.proofs.Stepped.{steps-as, fail-is}
use Rattle.exec.proofs.steps.fail.Goals as goal

pub returns : goal.returns
returns c j e b =
    steps-as (c.after_prim.ensures _ _ does-fail) (fail-is e j b c.args.here.point _ c.args.v.now c.advance.ensures)
