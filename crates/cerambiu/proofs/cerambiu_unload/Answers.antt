-- `cerambiu::cerambiu_unload` meets its contract. Assumes nothing.
use Rattle.cerambiu.proofs.Seeing.{told_none}
use Rattle.cerambiu.proofs.cerambiu_unload.Goals as goal

pub returns : goal.returns
returns c = told_none _ _ _ _ _ _ _ c.unload.ensures c.put_answer.ensures.0
