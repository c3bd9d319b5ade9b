-- `script::complain::message` meets its contract. Assumes nothing.
use mathlib.Core.Path.{sym, ap}
use native.Mathlib.Omega.{arith}
use Rattle.script.specs.Print.{wrong_text}
use Rattle.script.proofs.Putting.{bytes-by, within_more}
use Rattle.script.proofs.complain.message.Goals as goal

pub returns-in-Missing : goal.returns-in-Missing
returns-in-Missing c = bytes-by (within_more 5 c.of_param.ensures (omega arith)) (ap wrong_text (sym c.in-Missing.is))

pub returns-in-WordOutOfRange : goal.returns-in-WordOutOfRange
returns-in-WordOutOfRange c = bytes-by (within_more 5 c.counted-in-WordOutOfRange.ensures (omega arith)) (ap wrong_text (sym c.in-WordOutOfRange.is))

pub returns-in-ListTooLong : goal.returns-in-ListTooLong
returns-in-ListTooLong c = bytes-by (within_more 5 c.counted-in-ListTooLong.ensures (omega arith)) (ap wrong_text (sym c.in-ListTooLong.is))
