use native.Mathlib.Omega.{arith}
use Rattle.rows.proofs.Writing.{one_set}
use Rattle.rows.proofs.row.U32Row.put.Goals as goal

pub returns : goal.returns
returns c = one_set _ _ _ (omega arith)
