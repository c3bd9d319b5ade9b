-- `store::points::in_region` meets its contract. Assumes nothing.
use Prim.Native.Nat.{◌+◌, ◌-◌, ◌*◌}
use borrow.Author.Tests.{ne_eqb}
use Rattle.store.proofs.StepPlaces.{no-branch, branch-is}
use Rattle.store.proofs.points.in_region.Goals as goal

pub returns-then-at : goal.returns-then-at
returns-then-at c = branch-is c.args.steps.now (c.args.i * 4) (c.args.place - (c.args.i + 1)) _ _ c.at.ensures c.if-at.true c.at-then-at.ensures

pub returns-else-at : goal.returns-else-at
returns-else-at c = rw (ne_eqb _ _ c.if-at.false) (no-branch c.args.steps.now (c.args.i * 4) (c.args.place - (c.args.i + 1)) _ c.at.ensures c.if-at.false)
