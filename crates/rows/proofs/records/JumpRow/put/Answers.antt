use Rattle.rows.proofs.Written.{leap-put}
use Rattle.rows.proofs.records.JumpRow.put.Goals as goal

pub returns : goal.returns
returns c = leap-put _ _ _ _ c.args.self c.requires c.put.ensures c.put-2.ensures
