-- `store::points::is_after` meets its contract. Assumes nothing.
use Rattle.store.proofs.StepPlaces.{after_is}
use Rattle.store.proofs.points.is_after.Goals as goal

pub returns : goal.returns
returns c = after_is _ _ _ c.at.ensures
