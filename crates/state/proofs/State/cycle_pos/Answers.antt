-- `state::State::cycle_pos` meets its contract. Assumes nothing.
use Rattle.state.proofs.KeptForRules.{position-kept}
use Rattle.state.proofs.State.cycle_pos.Goals as goal

pub returns : goal.returns
returns c = position-kept _ c.kept.ensures.1 _ _ c.kept.ensures.0
