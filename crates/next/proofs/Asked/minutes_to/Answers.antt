-- `next::Asked::minutes_to` meets its contract. Assumes nothing.
use native.Mathlib.Omega.{arith}
use Rattle.next.proofs.Minutes.{this-week, next-week}
use Rattle.next.proofs.Asked.minutes_to.Goals as goal

pub returns-then-self-minute-clause-first : goal.returns-then-self-minute-clause-first
returns-then-self-minute-clause-first c = this-week _ _ c.args.self.now.in_week (omega arith) c.if-self-minute.true

pub returns-else-self-minute-clause-first : goal.returns-else-self-minute-clause-first
returns-else-self-minute-clause-first c = next-week _ _ c.args.self.now.in_week (omega arith) c.if-self-minute.false
