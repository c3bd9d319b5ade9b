use Rattle.rows.proofs.Reading.{timer-is}
use Rattle.rows.proofs.records.NamedTimerRow.at.Goals as goal

pub returns : goal.returns
returns c = timer-is _ _ _ _ c.at-name.ensures c.at-due.ensures
