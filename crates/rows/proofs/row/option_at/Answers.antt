use native.Mathlib.Omega.{arith}
use Rattle.rows.proofs.Reading.{none-is, some-is}
use Rattle.rows.proofs.row.option_at.Goals as goal

pub returns-then-at-eq0 : goal.returns-then-at-eq0
returns-then-at-eq0 g c = none-is g.T.Row.codec _ _ _ c.at.ensures c.if-at-eq0.true

pub overflow_add-k : goal.overflow_add-k
overflow_add-k g c = omega (arith, g.met.T.Row.takes.least)

pub returns : goal.returns
returns g c = some-is g.T.Row.codec _ _ _ c.at.ensures _ c.at-2.ensures c.if-at-eq0.false
