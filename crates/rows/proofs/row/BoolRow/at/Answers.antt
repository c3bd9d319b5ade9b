use Rattle.rows.proofs.Reading.{bool_is}
use Rattle.rows.proofs.row.BoolRow.at.Goals as goal

pub returns : goal.returns
returns c = bool_is _ _ _ c.at.ensures
