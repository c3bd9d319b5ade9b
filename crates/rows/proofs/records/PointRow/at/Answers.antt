use Rattle.rows.proofs.Reading.{point-is}
use Rattle.rows.proofs.records.PointRow.at.Goals as goal

pub returns : goal.returns
returns c = point-is _ _ _ _ _ c.at-list.ensures c.at-place.ensures c.option_at-jump.ensures
