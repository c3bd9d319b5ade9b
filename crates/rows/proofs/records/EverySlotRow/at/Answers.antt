use Rattle.rows.proofs.Reading.{slot_is_lem}
use Rattle.rows.proofs.records.EverySlotRow.at.Goals as goal

pub returns : goal.returns
returns c = slot_is_lem _ _ _ _ _ _ c.at-rule.ensures c.at-place.ensures c.at-period.ensures c.at-due.ensures
