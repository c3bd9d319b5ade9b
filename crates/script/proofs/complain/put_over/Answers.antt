-- `script::complain::put_over` meets its contract. Assumes nothing.
use Rattle.std.proofs.Common.{rules}
use Rattle.script.proofs.Putting.{then, bytes-by}
use Rattle.script.proofs.Lines.{over-other}
use Rattle.script.proofs.complain.put_over.Goals as goal

pub returns-in_default : goal.returns-in_default
returns-in_default c = bytes-by (then c.text-a.ensures c.number.ensures) (over-other _ (search rules) (search rules) (search rules))
