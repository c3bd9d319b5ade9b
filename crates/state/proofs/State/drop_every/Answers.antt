-- `state::State::drop_every` meets its contract. Assumes nothing.
use Rattle.state.proofs.EverySlots.{slots-none}
use Rattle.state.proofs.Follows.{means}
use Rattle.state.proofs.State.drop_every.Goals as goal

pub returns : goal.returns
returns c =
    rw (← c.self.view_is) (means (slots-none _ c.self.invariant _ c.clear.ensures))

pub invariant_of-self : goal.invariant_of-self
invariant_of-self c = (slots-none _ c.self.invariant _ c.clear.ensures).sound
