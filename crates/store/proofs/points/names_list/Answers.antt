-- `store::points::names_list` meets its contract. Assumes nothing.
use Prim.Native.Nat.{◌-◌}
use borrow.Author.Tests.{le-ltb}
use Rattle.store.proofs.StepPlaces.{next-list, no-list, after_list}
use Rattle.store.proofs.points.names_list.Goals as goal

pub returns-then-i-steps : goal.returns-then-i-steps
returns-then-i-steps c = λ xs s. after_list _ c.args.own xs s _ c.list_of-steps.ensures (c.args.list - 1) c.args.list (next-list _ c.if-list-eq0.false) _ c.if-i-steps.true c.is_after.ensures

pub returns-else-i-steps : goal.returns-else-i-steps
returns-else-i-steps c =
    λ xs s. rw (le-ltb _ _ c.if-i-steps.false) (no-list _ c.args.own xs s _ c.list_of-steps.ensures (c.args.list - 1) c.args.list (next-list _ c.if-list-eq0.false) c.if-i-steps.false)
