-- `crontab::scan::number` meets its contract. Assumes nothing.
use mathlib.Core.Path.{sym, ap, ◌∙◌}
use native.Mathlib.Omega.{arith}
use borrow.Author.Tests.{eqb-true, eqb-false}
use Rattle.decimal.proofs.DigitLaws.{taken-most}
use Rattle.crontab.proofs.Scans.{read_of, number-empty, number-is}
use Rattle.crontab.proofs.scan.number.Goals as goal

pub returns-then-is_empty : goal.returns-then-is_empty
returns-then-is_empty c = number-empty _ (eqb-true _ 0 (sym c.is_empty.ensures ∙ c.if-is_empty.true))

pub overflow_cast-result : goal.overflow_cast-result
overflow_cast-result c = omega (arith, taken-most 4294967295 _ _ (sym c.read.ensures ∙ c.in-Ok.is))

pub returns-in-Ok : goal.returns-in-Ok
returns-in-Ok c = number-is _ _ _ (eqb-false _ 0 (sym c.is_empty.ensures ∙ c.if-is_empty.false)) c.read.ensures (ap read_of c.in-Ok.is)

pub returns-in-Err : goal.returns-in-Err
returns-in-Err c = number-is _ _ _ (eqb-false _ 0 (sym c.is_empty.ensures ∙ c.if-is_empty.false)) c.read.ensures (ap read_of c.in-Err.is)
