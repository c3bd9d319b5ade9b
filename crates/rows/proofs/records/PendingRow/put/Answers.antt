use Rattle.rows.proofs.Written.{pending-put}
use Rattle.rows.proofs.records.PendingRow.put.Goals as goal

pub returns : goal.returns
returns c = pending-put _ _ _ _ _ _ _ _ _ _ c.args.self c.requires c.put.ensures c.put-2.ensures c.put-3.ensures c.put-4.ensures c.put-5.ensures c.put-6.ensures c.put-7.ensures c.put-8.ensures
