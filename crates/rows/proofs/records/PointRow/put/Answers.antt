use Rattle.rows.proofs.Written.{point-put}
use Rattle.rows.proofs.records.PointRow.put.Goals as goal

pub returns : goal.returns
returns c = point-put _ _ _ _ _ c.args.self c.requires c.put.ensures c.put-2.ensures c.put_option.ensures
