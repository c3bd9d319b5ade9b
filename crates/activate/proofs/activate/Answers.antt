-- `activate::activate` meets its contract. Assumes nothing.
use Rattle.activate.proofs.activate.Goals as goal

pub returns : goal.returns
returns c = rw c.from.ensures at c.activate_by_number.ensures
