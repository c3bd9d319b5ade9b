-- `store::checks::Rows::pending` meets its contract. Assumes nothing.
use Rattle.store.proofs.checks.Rows.pending.Goals as goal

pub returns : goal.returns
returns c = c.new.ensures
