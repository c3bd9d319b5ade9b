-- `script::read::numbers` meets its contract. Assumes nothing.
use Rattle.script.proofs.Reading.{Numbering}
use Rattle.script.proofs.read.numbers.Given as goal

abbrev pub invariant-loop-i : goal.invariant-loop-i
invariant-loop-i l = Numbering l.text l.call l.param-items l.numbers l.rest l.i
