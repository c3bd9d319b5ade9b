-- `cerambiu::cerambiu_load` meets its contract. Assumes nothing.
use Rattle.cerambiu.proofs.Seeing.{told_none}
use Rattle.cerambiu.proofs.cerambiu_load.Goals as goal

pub returns : goal.returns
returns c = told_none _ _ _ _ _ _ _ c.load.ensures c.put_answer.ensures.0
