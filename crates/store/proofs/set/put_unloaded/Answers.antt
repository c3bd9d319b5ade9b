-- `store::set::put_unloaded` meets its contract. Assumes nothing.
use Rattle.store.proofs.New.{unloaded}
use Rattle.store.proofs.set.put_unloaded.Goals as goal

pub returns : goal.returns
returns c = unloaded _ _ c.clear.ensures
