-- `state::State::bump` meets its contract. Assumes nothing.
use Rattle.state.proofs.CounterWords.{bumped}
use Rattle.state.proofs.Follows.{means}
use Rattle.state.proofs.State.bump.Goals as goal

pub returns : goal.returns
returns c =
    rw (← c.self.view_is) (means (bumped _ _ _ _ _ _ c.self.invariant c.counters_at-c.ensures c.bump.ensures c.put_counters.ensures))

pub invariant_of-self : goal.invariant_of-self
invariant_of-self c = (bumped _ _ _ _ _ _ c.self.invariant c.counters_at-c.ensures c.bump.ensures c.put_counters.ensures).sound
