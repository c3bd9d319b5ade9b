-- `exec::Env::value_at` meets its contract. Assumes nothing.
use native.Mathlib.Omega.{arith}
use Rattle.eval.specs.Answers.{env_of}
use Rattle.exec.proofs.Cases.{value-of}
use Rattle.exec.proofs.Env.value_at.Goals as goal

pub returns : goal.returns
returns c flat =
    let a = c.args in
    value-of (env_of a.self.now.snapshot.now a.self.now.image.now flat) _ _ a.i _ (rw c.given.ensures at (c.value_at.ensures flat)) (omega arith)
