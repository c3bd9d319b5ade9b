-- `state::State::prev_week_min` meets its contract. Assumes nothing.
use Rattle.state.proofs.CounterWords.{week-at}
use Rattle.state.proofs.State.prev_week_min.Goals as goal

pub returns : goal.returns
returns c =
    rw (← c.self.view_is) (week-at _ c.self.invariant _ c.option_at.ensures)
