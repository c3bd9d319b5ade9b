-- `state::State::last_activation` meets its contract. Assumes nothing.
use Rattle.state.proofs.KeptForRules.{activation-kept}
use Rattle.state.proofs.State.last_activation.Goals as goal

pub returns : goal.returns
returns c = activation-kept _ c.kept.ensures.1 _ _ c.kept.ensures.0
