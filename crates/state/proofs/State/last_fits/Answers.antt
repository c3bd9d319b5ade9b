-- `state::State::last_fits` meets its contract. Assumes nothing.
use Rattle.state.proofs.TakingNumbers.{last_fits}
use Rattle.state.proofs.State.last_fits.Goals as goal

pub returns : goal.returns
returns c =
    rw (← c.self.view_is) (last_fits _ c.self.invariant _ c.at.ensures)
