-- `solar::start_words` meets its contract. Assumes nothing.
use mathlib.Core.Path.{refl}
use Rattle.model.specs.Readback.{start_words}
use Rattle.solar.proofs.start_words.Goals as goal

pub returns-in-None : goal.returns-in-None
unfolding start_words
returns-in-None c = rw c.in-None.is refl
