-- `image::record::cmp_of` meets its contract. Assumes nothing.
use mathlib.Core.Path.{refl}
use Rattle.image.proofs.record.cmp_of.Goals as goal

pub returns-in-2 : goal.returns-in-2
returns-in-2 c = rw c.in-2.is refl

pub returns-in-3 : goal.returns-in-3
returns-in-3 c = rw c.in-3.is refl
