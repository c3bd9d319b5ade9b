-- `wheel::minutes::week_minute` meets its contract. Assumes nothing.
use mathlib.Core.Path.{refl}
use native.Mathlib.Omega.{arith}
use Rattle.model.specs.Wheel.{week_minute}
use Rattle.wheel.proofs.minutes.week_minute.Goals as goal

pub returns : goal.returns
unfolding week_minute
returns c = (refl, omega (arith, c.requires.weekday, c.requires.minute))
