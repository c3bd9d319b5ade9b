-- `cerambiu::NextStartAnswer::put` meets its contract. Assumes nothing.
use Rattle.next.specs.NextStart.{start_values}
use Rattle.cerambiu.proofs.NextStartAnswer.put.Goals as goal

pub returns-in-NoStart : goal.returns-in-NoStart
unfolding start_values
returns-in-NoStart c = rw c.in-NoStart.is c.put_values.ensures

pub returns-in-ClockUnknown : goal.returns-in-ClockUnknown
unfolding start_values
returns-in-ClockUnknown c = rw c.in-ClockUnknown.is c.put_values-in-ClockUnknown.ensures

pub returns-in-Start : goal.returns-in-Start
unfolding start_values
returns-in-Start c = rw c.in-Start.is c.put_values-in-Start.ensures
