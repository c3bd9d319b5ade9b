-- `state::State::slots` meets its contract. Assumes nothing.
use mathlib.Core.Path.{refl}
use Rattle.state.proofs.EverySlots.{slots_read}
use Rattle.state.proofs.State.slots.Goals as goal

pub returns : goal.returns
returns c = rw (← c.self.view_is) (slots_read _ c.self.invariant _ _ refl c.counted.ensures)
