-- `script::complain::counted` meets its contract. Assumes nothing.
use Rattle.script.proofs.Putting.{then, bytes-by}
use Rattle.script.proofs.Lines.{of-call-twice}
use Rattle.script.proofs.complain.counted.Goals as goal

pub returns : goal.returns
returns c = bytes-by (then (then c.of_call-a.ensures c.number-b.ensures) c.text.ensures) (of-call-twice _ _ _ _)
