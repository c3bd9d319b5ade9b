-- `image::record::operand_of` meets its contract. Assumes nothing.
use mathlib.Core.Path.{refl}
use Rattle.image.proofs.record.operand_of.Goals as goal

pub returns-in-1 : goal.returns-in-1
returns-in-1 c = rw c.in-1.is refl
