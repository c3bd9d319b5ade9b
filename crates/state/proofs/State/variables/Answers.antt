-- `state::State::variables` meets its contract. Assumes nothing.
use Rattle.state.proofs.VariableRows.{variables-read}
use Rattle.state.proofs.State.variables.Goals as goal

pub returns : goal.returns
returns c = rw (← c.self.view_is) (variables-read _ c.self.invariant _ c.counted.ensures)
