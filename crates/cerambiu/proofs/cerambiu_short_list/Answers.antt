-- `cerambiu::cerambiu_short_list` meets its contract. Assumes nothing.
use Rattle.short_lists.specs.Answers.{list_words}
use Rattle.cerambiu.proofs.Seeing.{result-told}
use Rattle.cerambiu.proofs.cerambiu_short_list.Goals as goal

pub returns : goal.returns
returns c = result-told list_words _ _ _ _ _ _ c.short_list.ensures c.put_answer.ensures.0 c.put_answer.ensures.1
