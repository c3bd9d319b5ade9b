-- `wheel::schedules::count_missed` meets its contract. Assumes nothing.
use mathlib.Core.Path.{refl}
use Rattle.wheel.proofs.WallParts.{counted, uncounted}
use Rattle.wheel.proofs.schedules.count_missed.Goals as goal

pub returns-then-missed : goal.returns-then-missed
returns-then-missed c =
    counted _ _ _ _ c.if-missed.true c.bump.ensures

pub returns-else-missed : goal.returns-else-missed
returns-else-missed c =
    uncounted _ _ _ _ c.if-missed.false (record { says = refl; based = refl })
