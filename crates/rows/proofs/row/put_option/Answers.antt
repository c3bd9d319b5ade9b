use mathlib.Core.Path.{refl}
use native.Mathlib.Omega.{arith}
use Rattle.model.specs.Parts.{any}
use Rattle.rows.proofs.Writing.{lays}
use Rattle.rows.proofs.row.put_option.Goals as goal

pub returns-in-Some : goal.returns-in-Some
returns-in-Some g c = rw c.in-Some.is (lays _ _ _ _ _ (any.put 1) (g.T.Row.codec.put c.in-Some.x) (omega arith) refl c.put.ensures c.put-in-Some.ensures)
