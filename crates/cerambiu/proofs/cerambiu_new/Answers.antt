-- `cerambiu::cerambiu_new` meets its contract. Assumes nothing.
use Rattle.cerambiu.proofs.Seeing.{told_none}
use Rattle.cerambiu.proofs.cerambiu_new.Goals as goal

pub returns : goal.returns
returns c = told_none _ _ _ _ _ _ _ c.new.ensures c.put_answer.ensures.0
