use Rattle.rows.proofs.Written.{int-put, text-put}
use Rattle.rows.proofs.records.VariableRow.put.Goals as goal

pub returns-in-Int : goal.returns-in-Int
returns-in-Int c = int-put _ _ _ _ _ c.args.self _ c.in-Int.is c.requires c.put.ensures c.put-in-Int.ensures c.put-in-Int-2.ensures

pub returns-in-Text : goal.returns-in-Text
returns-in-Text c = text-put _ _ _ _ _ c.args.self _ c.in-Text.is c.requires c.put.ensures c.put-in-Text.ensures c.put-in-Text-2.ensures
