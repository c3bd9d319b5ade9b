-- `state::counters_at` meets its contract. Assumes nothing.
use Rattle.state.proofs.CounterWords.{counters-are}
use Rattle.state.proofs.counters_at.Goals as goal

pub returns : goal.returns
returns c =
    counters-are _ _ _
    c.at.ensures
    c.at-2.ensures
    c.at-3.ensures
    c.at-4.ensures
    c.at-5.ensures
    c.at-6.ensures
    c.at-7.ensures
    c.at-8.ensures
    c.at-9.ensures
    c.at-10.ensures
    c.at-11.ensures
    c.at-12.ensures
