use Rattle.rows.proofs.Reading.{variable-is}
use Rattle.rows.proofs.records.VariableRow.at.Goals as goal

pub returns-then-is_text : goal.returns-then-is_text
returns-then-is_text c = variable-is _ _ _ _ _ c.at-name.ensures c.at-is_text.ensures c.at-bits.ensures _ (rw (c.low_word.ensures, c.if-is_text.true))

pub returns-else-is_text : goal.returns-else-is_text
returns-else-is_text c = variable-is _ _ _ _ _ c.at-name.ensures c.at-is_text.ensures c.at-bits.ensures _ (rw c.if-is_text.false)
