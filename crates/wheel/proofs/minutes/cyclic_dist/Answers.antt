-- `wheel::minutes::cyclic_dist` meets its contract. Assumes nothing.
use mathlib.Core.Path.{refl}
use Rattle.model.specs.Wheel.{cyclic_dist}
use Rattle.wheel.proofs.minutes.cyclic_dist.Goals as goal

pub returns : goal.returns
unfolding cyclic_dist
returns c = rw c.saturating_sub.ensures refl
