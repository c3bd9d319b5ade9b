-- `store::points::point_fits` meets its contract. Assumes nothing.
use borrow.Author.Tests.{lt-leb}
use Rattle.store.proofs.StepPlaces.{too_far, by_jump}
use Rattle.store.proofs.points.point_fits.Goals as goal

pub returns-then-place-steps : goal.returns-then-place-steps
returns-then-place-steps c = by_jump _ c.args.x _ c.if-place-steps.true c.jump_fits.ensures

pub returns-else-place-steps : goal.returns-else-place-steps
returns-else-place-steps c = rw (lt-leb _ _ c.if-place-steps.false) (too_far _ c.args.x c.if-place-steps.false)
