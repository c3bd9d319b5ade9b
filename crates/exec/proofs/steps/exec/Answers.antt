-- `exec::steps::exec` meets its contract. Assumes nothing.
use Rattle.eval.specs.Answers.{env_of}
use Rattle.exec.proofs.steps.exec.Goals as goal

pub returns-in-Primitive : goal.returns-in-Primitive
returns-in-Primitive c flat = rw c.in-Primitive.is (c.primitive.ensures _ flat)

pub returns-in-Branch : goal.returns-in-Branch
returns-in-Branch c flat = rw c.in-Branch.is (c.run_branch.ensures _ flat)

pub returns-in-Fail : goal.returns-in-Fail
returns-in-Fail c flat = rw c.in-Fail.is (c.fail.ensures c.args.env.now.job (env_of c.args.env.now.snapshot.now c.args.env.now.image.now flat) _)

pub returns-in-Wait : goal.returns-in-Wait
returns-in-Wait c flat = rw c.in-Wait.is (c.run_wait.ensures c.args.env.now.image.now flat)

pub returns-in-After : goal.returns-in-After
returns-in-After c flat = rw c.in-After.is (c.run_after.ensures c.args.env.now.image.now flat)
