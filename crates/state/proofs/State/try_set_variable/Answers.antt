-- `state::State::try_set_variable` meets its contract. Assumes nothing.
use Rattle.state.proofs.VariableRows.{variables-lent, text-fits, variable-set, lacks-same}
use Rattle.state.proofs.Follows.{means}
use Rattle.state.proofs.State.try_set_variable.Goals as goal

pub assign-requires : goal.assign-requires
assign-requires c = variables-lent _ c.self.invariant

pub returns-clause-means : goal.returns-clause-means
returns-clause-means c =
    rw (← c.self.view_is) (means (variable-set c.args.name c.args.value _ _ c.self.invariant (text-fits c.args.name c.args.value c.well_formed.1.1.0) c.assign.ensures.holds))

pub returns-clause-room : goal.returns-clause-room
returns-clause-room c =
    rw (← c.self.view_is) (rw (lacks-same c.args.name c.args.value _) at c.assign.ensures.room)

pub invariant_of-self : goal.invariant_of-self
invariant_of-self c = (variable-set c.args.name c.args.value _ _ c.self.invariant (text-fits c.args.name c.args.value c.well_formed.1.1.0) c.assign.ensures.holds).sound
