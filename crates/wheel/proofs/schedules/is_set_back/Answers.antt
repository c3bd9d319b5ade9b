-- `wheel::schedules::is_set_back` meets its contract. Assumes nothing.
use Rattle.model.specs.Wheel.{is_set_back}
use Rattle.wheel.proofs.schedules.is_set_back.Goals as goal

pub returns : goal.returns
unfolding is_set_back
returns c = c.in_window.ensures
