-- `every::rebuild_every` meets its contract. Assumes nothing.
use Rattle.every.proofs.Slots.{slots-empty, slots-sound, slots-anew}
use Rattle.every.proofs.rebuild_every.Goals as goal

pub join_all-requires : goal.join_all-requires
join_all-requires c = slots-empty _ _ c.v.invariant (rw (← c.v.view_is) at c.drop_every.ensures)

pub invariant_of-v : goal.invariant_of-v
invariant_of-v c = slots-sound _ _ c.v.invariant (rw (← c.v.view_is) at c.drop_every.ensures) _ _ c.join_all.ensures

pub returns : goal.returns
returns c = slots-anew _ _ c.v.invariant (rw (← c.v.view_is) at c.drop_every.ensures) _ _ c.join_all.ensures
