-- `script::complain::of_param` meets its contract. Assumes nothing.
use mathlib.Core.Path.{◌∙◌}
use Rattle.script.proofs.Putting.{then, bytes-by}
use Rattle.script.proofs.Lines.{of-call-more}
use Rattle.script.proofs.complain.of_param.Goals as goal

pub returns : goal.returns
returns c = bytes-by (then c.of_call-a.ensures c.text.ensures) (of-call-more _ _ _ _ (c.as_bytes.ensures.value ∙ c.name.ensures))
