-- `cerambiu::cerambiu_telegrams` meets its contract. Assumes nothing.
use Rattle.cerambiu.proofs.Sending.{sent}
use Rattle.cerambiu.proofs.cerambiu_telegrams.Goals as goal

pub returns : goal.returns
returns c = sent _ _ _ _ _ _ _ c.telegrams.ensures.0 c.telegrams.ensures.1 c.put_answer.ensures.0 c.put_answer.ensures.1
