-- `rows::tables::Rows::counted` meets its contract. Assumes nothing.
use Rattle.rows.proofs.tables.Rows.counted.Goals as goal

pub returns : goal.returns
returns g c = c.new.ensures
