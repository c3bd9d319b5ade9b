-- `exec::variables::var_set` meets its contract. Assumes nothing.
use borrow.Author.Tests.{le-ltb}
use Rattle.model.specs.Actions.{run_prim, prim_var_set}
use Rattle.eval.specs.Answers.{env_of}
use Rattle.exec.proofs.variables.var_set.Goals as goal

pub returns-else-text_limit-bytes : goal.returns-else-text_limit-bytes
unfolding run_prim prim_var_set
returns-else-text_limit-bytes c snapshot flat =
    rw (c.in-Text.is, ← c.text_limit.ensures, le-ltb _ _ c.if-text_limit-bytes.false) (c.assign.ensures (env_of snapshot c.args.env.now.image.now flat))

pub returns-in-Int : goal.returns-in-Int
unfolding run_prim prim_var_set
returns-in-Int c snapshot flat = rw c.in-Int.is (c.assign-in-Int.ensures (env_of snapshot c.args.env.now.image.now flat))
