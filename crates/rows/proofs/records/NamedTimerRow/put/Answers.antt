use Rattle.rows.proofs.Written.{timer-put}
use Rattle.rows.proofs.records.NamedTimerRow.put.Goals as goal

pub returns : goal.returns
returns c = timer-put _ _ _ _ c.args.self c.requires c.put.ensures c.put-2.ensures
