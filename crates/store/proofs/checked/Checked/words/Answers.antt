-- `store::checked::Checked::words` meets its contract. Assumes nothing.
use Rattle.store.proofs.Reading.{reads}
use Rattle.store.proofs.checked.Checked.words.Goals as goal

pub returns : goal.returns
returns c = rw (← c.self.view_is) (reads c.self.inside.words.now c.self.invariant)
