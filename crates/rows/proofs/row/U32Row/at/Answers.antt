use Rattle.rows.proofs.Reading.{word-is}
use Rattle.rows.proofs.row.U32Row.at.Goals as goal

pub returns : goal.returns
returns c = word-is _ _ _ c.word.ensures
