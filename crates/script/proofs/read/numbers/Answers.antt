-- `script::read::numbers` meets its contract. Assumes nothing.
use Rattle.std.proofs.Common.{rules, arith}
use Rattle.script.proofs.Reading.{none-numbered, numbers-end, numbers_more}
use Rattle.script.proofs.read.numbers.Goals as goal

pub loop-i-init : goal.loop-i-init
loop-i-init c = none-numbered _ _ _

pub loop-i-preserved : goal.loop-i-preserved
loop-i-preserved c =
    numbers_more _ _ c.params-param-items.result.now _ _ _ c.loop-i.invariant _ c.loop-i-test.true _ _ c.in_ok-numbers.ensures (search rules)

pub returns : goal.returns
returns c =
    rw (← c.params-param-items.ensures.params)
    (numbers-end _ _ c.params-param-items.result.now _ _ _ c.loop-i.invariant (omega arith) (omega arith))
