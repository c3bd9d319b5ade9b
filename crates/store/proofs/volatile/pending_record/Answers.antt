-- `store::volatile::pending_record` meets its contract. Assumes nothing.
use Rattle.store.specs.Volatile.{record_in}
use Rattle.store.proofs.volatile.pending_record.Goals as goal

pub returns : goal.returns
unfolding record_in
returns c = c.at.ensures
