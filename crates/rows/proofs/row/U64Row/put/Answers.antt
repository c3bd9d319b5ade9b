use mathlib.Core.Path.{refl}
use native.Mathlib.Omega.{arith}
use Rattle.rows.proofs.Writing.{lays}
use Rattle.rows.proofs.row.U64Row.put.Goals as goal

pub returns : goal.returns
returns c = lays _ _ _ _ _ _ _ (omega arith) refl (rw c.low_word.ensures at c.put.ensures) (rw c.high_word.ensures at c.put-2.ensures)
