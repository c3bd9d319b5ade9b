-- `state::State::next_fits` meets its contract. Assumes nothing.
use native.Mathlib.Omega.{arith}
use Rattle.state.proofs.Assigning.{next_fits}
use Rattle.state.proofs.State.next_fits.Goals as goal

pub returns : goal.returns
returns c =
    rw (← c.self.view_is) (next_fits _ _ _ c.at.ensures c.at-next.ensures (omega arith))
