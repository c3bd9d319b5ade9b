use Rattle.rows.proofs.Reading.{pending-is}
use Rattle.rows.proofs.records.PendingRow.at.Goals as goal

pub returns : goal.returns
returns c = pending-is _ _ _ _ _ _ _ _ _ c.at-seq.ensures c.at-due.ensures c.at-rule.ensures c.at-point.ensures c.at-budget.ensures c.at-trigger.ensures c.at-number.ensures
