-- `cerambiu::cerambiu_readback` meets its contract. Assumes nothing.
use Rattle.cerambiu.specs.Told.{one_value}
use Rattle.cerambiu.proofs.Seeing.{result-told}
use Rattle.cerambiu.proofs.cerambiu_readback.Goals as goal

pub returns : goal.returns
returns c = result-told one_value _ _ _ _ _ _ c.readback.ensures c.put_answer.ensures.0 c.put_answer.ensures.1
