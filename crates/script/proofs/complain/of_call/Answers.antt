-- `script::complain::of_call` meets its contract. Assumes nothing.
use mathlib.Core.Path.{◌∙◌}
use Rattle.script.proofs.Putting.{then, bytes-by}
use Rattle.script.proofs.Lines.{of-call}
use Rattle.script.proofs.complain.of_call.Goals as goal

pub returns : goal.returns
returns c = bytes-by (then (then c.text-a.ensures c.text-b.ensures) c.text.ensures) (of-call _ _ _ (c.as_bytes.ensures.value ∙ c.name.ensures))
