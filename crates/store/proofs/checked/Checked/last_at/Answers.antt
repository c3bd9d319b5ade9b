-- `store::checked::Checked::last_at` meets its contract. Assumes nothing.
use Rattle.std.proofs.Common.{◌∙◌}
use Rattle.store.proofs.Stored.{time-read}
use Rattle.store.proofs.Reading.{as_read}
use Rattle.store.proofs.checked.Checked.last_at.Goals as goal

pub returns : goal.returns
returns c = rw (← c.self.view_is) (c.last_at.ensures ∙ time-read c.self.inside.words.now _ (as_read _ c.self.invariant))
