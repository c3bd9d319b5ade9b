-- `eval::time::minute_of_day` meets its contract. Assumes nothing.
use native.Mathlib.Omega.{arith}
use Rattle.eval.proofs.time.minute_of_day.Goals as goal

pub returns-clause-minute : goal.returns-clause-minute
returns-clause-minute c = omega arith
