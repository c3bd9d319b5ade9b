-- `exec::dry::exec_dry` meets its contract. Assumes nothing.
use mathlib.Core.Logic.{⊎_elim}
use Rattle.eval.specs.Answers.{env_of}
use Rattle.exec.proofs.DryLaws.{primitive-dry, wait-dry, branch-dry, after-dry, fail-dry}
use Rattle.exec.proofs.dry.exec_dry.Goals as goal

pub returns-in-Primitive : goal.returns-in-Primitive
returns-in-Primitive c flat qs =
    rw c.in-Primitive.is (primitive-dry (env_of c.args.env.now.snapshot.now c.args.env.now.image.now flat) c.args.env.now.job 0 c.args.here.point c.args.v.now _ qs _ c.requires (c.primitive.ensures 0 flat))

pub returns-in-Wait : goal.returns-in-Wait
returns-in-Wait c flat qs =
    let e = env_of c.args.env.now.snapshot.now c.args.env.now.image.now flat in
    ⊎_elim (λ p. rw p.1 (wait-dry e c.args.env.now.job 0 c.args.here.point c.args.v.now _ qs _ _ c.advance.ensures (c.goes_on.ensures _)))
    (λ p. rw p.1 (after-dry e c.args.env.now.job 0 c.args.here.point c.args.v.now _ qs _ _ c.advance.ensures (c.goes_on.ensures _))) c.in-Wait.is

pub returns-in-Branch : goal.returns-in-Branch
returns-in-Branch c flat qs =
    rw c.in-Branch.is (branch-dry (env_of c.args.env.now.snapshot.now c.args.env.now.image.now flat) c.args.env.now.job 0 c.args.here.point c.args.v.now _ qs _ _ _ (c.run_branch.ensures 0 flat))

pub returns-in-Fail : goal.returns-in-Fail
returns-in-Fail c flat qs =
    rw c.in-Fail.is (fail-dry (env_of c.args.env.now.snapshot.now c.args.env.now.image.now flat) c.args.env.now.job 0 c.args.here.point c.args.v.now _ qs (c.fail.ensures c.args.env.now.job (env_of c.args.env.now.snapshot.now c.args.env.now.image.now flat) 0))
