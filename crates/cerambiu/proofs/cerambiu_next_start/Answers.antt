-- `cerambiu::cerambiu_next_start` meets its contract. Assumes nothing.
use Rattle.next.specs.NextStart.{start_values}
use Rattle.cerambiu.proofs.Seeing.{result-told}
use Rattle.cerambiu.proofs.cerambiu_next_start.Goals as goal

pub returns : goal.returns
returns c = result-told start_values _ _ _ _ _ _ c.next_start.ensures c.put_answer.ensures.0 c.put_answer.ensures.1
