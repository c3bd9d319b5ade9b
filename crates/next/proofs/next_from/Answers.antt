-- `next::next_from` meets its contract. Assumes nothing.
use mathlib.Core.Path.{◌∙◌}
use Rattle.next.proofs.Answer.{best-next}
use Rattle.next.proofs.next_from.Goals as goal

pub returns : goal.returns
returns c = c.earliest.ensures ∙ best-next _ _ _ _
