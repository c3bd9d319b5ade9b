-- `cerambiu::cerambiu_room` meets its contract. Assumes nothing.
use Rattle.room.specs.Needed.{numbers}
use Rattle.cerambiu.proofs.Seeing.{result-told}
use Rattle.cerambiu.proofs.cerambiu_room.Goals as goal

pub returns : goal.returns
returns c = result-told numbers _ _ _ _ _ _ c.room_for.ensures c.put_answer.ensures.0 c.put_answer.ensures.1
