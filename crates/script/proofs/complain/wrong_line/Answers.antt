-- `script::complain::wrong_line` meets its contract. Assumes nothing.
use native.Mathlib.Omega.{arith}
use Rattle.script.proofs.Putting.{then, printed}
use Rattle.script.proofs.Lines.{wrong-line}
use Rattle.script.proofs.complain.wrong_line.Goals as goal

pub returns : goal.returns
returns c = printed _ (then (then (then (then c.text-a.ensures c.number-b.ensures) c.text-c.ensures) c.message-d.ensures) c.text.ensures) (omega (arith, c.requires)) (wrong-line _ _)
