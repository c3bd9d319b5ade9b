-- `store::hold::Loaded::slots_hold` meets its contract. Assumes nothing.
use Rattle.store.proofs.SetRules.{image-few}
use Rattle.store.proofs.hold.Loaded.slots_hold.Goals as goal

pub same_slots-requires : goal.same_slots-requires
same_slots-requires c = image-few _ c.args.self.now.accepted

pub returns : goal.returns
returns c = rw (← c.slots_in.ensures) c.same_slots.ensures
