-- `decimal::read` meets its contract. Assumes nothing.
use native.Mathlib.Omega.{arith}
use Rattle.decimal.proofs.DigitLaws.{no_digits, too_many, above, within}
use Rattle.decimal.proofs.read.Goals as goal

pub returns-then-not-all_digits : goal.returns-then-not-all_digits
returns-then-not-all_digits c = no_digits _ _ c.if-not-all_digits.ensures

pub returns-in-Some : goal.returns-in-Some
returns-in-Some c = within _ _ c.if-not-all_digits.ensures _ c.in-Some.ensures c.if-n-most.true

pub returns-in_default : goal.returns-in_default
returns-in_default c = above _ _ c.if-not-all_digits.ensures _ c.in-Some.ensures c.if-n-most.false

pub returns-in_default-2 : goal.returns-in_default-2
returns-in_default-2 c = too_many _ _ c.if-not-all_digits.ensures c.in_default.ensures (omega arith)
