-- `store::volatile::put_state` meets its contract. Assumes nothing.
use Rattle.store.proofs.Commit.{wrote}
use Rattle.store.proofs.volatile.put_state.Goals as goal

pub returns : goal.returns
returns c = rw (← c.v.view_is) (wrote _ c.v.inside.words _ (rw (← c.v.view_is) at c.requires) c.put_words.ensures)
