-- `state::State::set_last_activation` meets its contract. Assumes nothing.
use Rattle.state.proofs.KeptForRules.{activation-laid}
use Rattle.state.proofs.Follows.{means}
use Rattle.state.proofs.State.set_last_activation.Goals as goal

pub returns : goal.returns
returns c = rw (← c.self.view_is) (means (activation-laid _ c.self.invariant _ _ c.args.x c.put_kept.ensures.words c.put_kept.ensures.laid))

pub invariant_of-self : goal.invariant_of-self
invariant_of-self c = (activation-laid _ c.self.invariant _ _ c.args.x c.put_kept.ensures.words c.put_kept.ensures.laid).sound
