-- `script::complain::param_over` meets its contract. Assumes nothing.
use mathlib.Core.Path.{◌∙◌}
use Rattle.script.proofs.Putting.{then, bytes-by}
use Rattle.script.proofs.Lines.{of-call-over}
use Rattle.script.proofs.complain.param_over.Goals as goal

pub returns : goal.returns
returns c = bytes-by (then c.of_call-a.ensures c.put_over.ensures) (of-call-over _ _ _ _ _ (c.as_bytes.ensures.value ∙ c.name.ensures) c.most.ensures)
