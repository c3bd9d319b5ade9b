-- `rows::tables::Rows::new` meets its contract: written out, so that what it answers is compared. Assumes nothing.
use mathlib.Core.Path.{refl}
use Rattle.rows.proofs.tables.Rows.new.Goals as goal

pub returns : goal.returns
returns g c = refl
