-- `script::read::number` meets its contract. Assumes nothing.
use Rattle.script.proofs.Reading.{missing, given, refused}
use Rattle.script.proofs.read.number.Goals as goal

pub returns-in_default : goal.returns-in_default
returns-in_default c = missing _ _ _ c.in_default.ensures

pub returns-in-Ok : goal.returns-in-Ok
returns-in-Ok c = given _ _ _ _ _ c.in-Some.ensures _ c.most.ensures _ c.in-Ok.ensures

pub returns-in-Err-NoNumber : goal.returns-in-Err-NoNumber
returns-in-Err-NoNumber c = refused _ _ _ _ _ c.in-Some.ensures _ c.most.ensures _ (rw c.in-Err-NoNumber.field-0-is at c.in-Err-NoNumber.ensures)

pub returns-in-Err-TooLarge : goal.returns-in-Err-TooLarge
returns-in-Err-TooLarge c = refused _ _ _ _ _ c.in-Some.ensures _ c.most.ensures _ (rw c.in-Err-TooLarge.field-0-is at c.in-Err-TooLarge.ensures)
