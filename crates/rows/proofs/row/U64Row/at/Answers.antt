use Rattle.rows.proofs.Reading.{wide_is}
use Rattle.rows.proofs.row.U64Row.at.Goals as goal

pub returns : goal.returns
returns c = wide_is _ _ _ _ _ c.join_words.ensures c.at.ensures c.at-2.ensures
