-- `image::record::hcl_state_of` meets its contract. Assumes nothing.
use mathlib.Core.Path.{refl}
use Rattle.image.proofs.record.hcl_state_of.Goals as goal

pub returns-in-0 : goal.returns-in-0
returns-in-0 c = rw c.in-0.is refl
