-- `cerambiu::cerambiu_run` meets its contract. Assumes nothing.
use Rattle.cerambiu.proofs.Seeing.{told}
use Rattle.cerambiu.proofs.cerambiu_run.Goals as goal

pub returns : goal.returns
returns c = told _ _ _ _ _ _ _ _ _ c.run.ensures c.put_answer.ensures.0 c.put_answer.ensures.1
