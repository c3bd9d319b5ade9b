-- `state::State::unset_rules` meets its contract. Assumes nothing.
use mathlib.Core.Path.{refl}
use Rattle.state.proofs.Unsetting.{rules-unset}
use Rattle.state.proofs.Follows.{means}
use Rattle.state.proofs.State.unset_rules.Goals as goal

pub returns : goal.returns
returns c =
    rw (← c.self.view_is) (means (rules-unset _ _ _ _ c.self.invariant c.requires c.clear.ensures refl))

pub invariant_of-self : goal.invariant_of-self
invariant_of-self c = (rules-unset _ _ _ _ c.self.invariant c.requires c.clear.ensures refl).sound
