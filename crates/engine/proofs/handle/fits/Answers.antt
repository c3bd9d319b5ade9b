-- `engine::handle::fits` meets its contract. Assumes nothing.
use borrow.Author.Tests.{not-true, not-false}
use Rattle.activate.specs.Carried.{carried_by}
use Rattle.engine.proofs.HandlingLaws.{outcomes-over, effects-over, numbers-over, last-over, all-fits}
use Rattle.engine.proofs.handle.fits.Goals as goal
use Rattle.engine.proofs.handle.fits.Goals.{then-lent-via-then-lent, then-lent-via-else-lent+then-lent-2}

pub returns-then-lent : goal.returns-then-lent
returns-then-lent c = elim c.then-lent.branch [
  | then-lent-via-then-lent w ↦ outcomes-over _ _ (carried_by c.args.lent.now) w.if-lent.true
  | then-lent-via-else-lent+then-lent-2 w ↦ effects-over _ _ (carried_by c.args.lent.now) w.if-lent-2.true
]

pub returns-then-not-next_fits : goal.returns-then-not-next_fits
returns-then-not-next_fits c =
    numbers-over _ _ (carried_by c.args.lent.now) c.if-lent.false c.if-lent-2.false _ c.next_fits.ensures (not-true _ c.if-not-next_fits.true-raw)

pub returns-then-not-last_fits : goal.returns-then-not-last_fits
returns-then-not-last_fits c =
    last-over _ _ (carried_by c.args.lent.now) c.if-lent.false c.if-lent-2.false _ c.next_fits.ensures (not-false _ c.if-not-next_fits.false-raw) _ c.last_fits.ensures (not-true _ c.if-not-last_fits.true-raw)

pub returns : goal.returns
returns c =
    all-fits _ _ (carried_by c.args.lent.now) c.if-lent.false c.if-lent-2.false _ c.next_fits.ensures (not-false _ c.if-not-next_fits.false-raw) _ c.last_fits.ensures (not-false _ c.if-not-last_fits.false-raw)
