-- `state::State::new` meets its contract. Assumes nothing.
use Rattle.state.proofs.Blank.{blank-sound}
use Rattle.state.proofs.State.new.Goals as goal

pub invariant_of-result : goal.invariant_of-result
invariant_of-result c = blank-sound
