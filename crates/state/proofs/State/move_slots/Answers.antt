-- `state::State::move_slots` meets its contract. Assumes nothing.
use Rattle.state.proofs.EverySlots.{slots_lent, slots-moved}
use Rattle.state.proofs.Follows.{means}
use Rattle.state.proofs.State.move_slots.Goals as goal

pub move_all-requires : goal.move_all-requires
move_all-requires c = slots_lent _ c.self.invariant

pub returns : goal.returns
returns c =
    rw (← c.self.view_is) (means (slots-moved _ c.self.invariant _ _ c.move_all.ensures))

pub invariant_of-self : goal.invariant_of-self
invariant_of-self c = (slots-moved _ c.self.invariant _ _ c.move_all.ensures).sound
