-- `rows::tables::table_at` meets its contract. The invariant: the first i rows are read. Assumes nothing.
use mathlib.Core.Path.{◌≡◌}
use Rattle.arrayvec.specs.ArrayVec.{array_vec_len}
use Rattle.rows.specs.Places.{table_at}
use Rattle.rows.proofs.tables.table_at.Given as goal

abbrev pub invariant-loop-i : goal.invariant-loop-i
invariant-loop-i g l = (array_vec_len l.rows ≡ l.i) × (l.rows.items ≡ table_at g.T.Row.codec l.i l.s l.k)
