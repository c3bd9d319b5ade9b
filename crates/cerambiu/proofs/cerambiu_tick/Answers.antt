-- `cerambiu::cerambiu_tick` meets its contract. Assumes nothing.
use Rattle.cerambiu.proofs.Seeing.{told}
use Rattle.cerambiu.proofs.cerambiu_tick.Goals as goal

pub returns : goal.returns
returns c = told _ _ _ _ _ _ _ _ _ c.tick.ensures c.put_answer.ensures.0 c.put_answer.ensures.1
