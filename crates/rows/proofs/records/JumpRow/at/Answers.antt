use Rattle.rows.proofs.Reading.{leap-is}
use Rattle.rows.proofs.records.JumpRow.at.Goals as goal

pub returns : goal.returns
returns c = leap-is _ _ _ _ c.at-at.ensures c.at-to.ensures
