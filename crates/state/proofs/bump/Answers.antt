-- `state::bump` meets its contract. Assumes nothing.
use Rattle.state.proofs.CounterWords.{bumped}
use Rattle.state.proofs.Follows.{means}
use Rattle.state.proofs.bump.Goals as goal

pub returns : goal.returns
returns c =
    rw (← c.v.view_is) (means (bumped _ _ _ _ c.args.which c.args.by c.v.invariant c.counters_at-c.ensures c.with_bump-d.ensures c.put_counters.ensures))

pub invariant_of-v : goal.invariant_of-v
invariant_of-v c = (bumped _ _ _ _ c.args.which c.args.by c.v.invariant c.counters_at-c.ensures c.with_bump-d.ensures c.put_counters.ensures).sound
