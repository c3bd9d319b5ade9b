-- `rows::tables::Rows::len` meets its contract. Assumes nothing.
use mathlib.Core.Path.{sym}
use Rattle.rows.proofs.Reading.{table_long}
use Rattle.rows.proofs.tables.Rows.len.Goals as goal

pub returns : goal.returns
returns g c = let s = c.self.inside in rw (← c.self.view_is) (sym (table_long g.T.Row.codec s.words.now s.n s.k))
