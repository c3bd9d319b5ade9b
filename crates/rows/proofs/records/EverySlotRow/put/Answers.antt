use Rattle.rows.proofs.Written.{slot-put}
use Rattle.rows.proofs.records.EverySlotRow.put.Goals as goal

pub returns : goal.returns
returns c = slot-put _ _ _ _ _ _ c.args.self c.requires c.put.ensures c.put-2.ensures c.put-3.ensures c.put-4.ensures
