-- `image::layout::Image::record_from` meets its contract. Assumes nothing.
use mathlib.Core.Path.{◌∙◌}
use Rattle.image.proofs.Far.{capped-record}
use Rattle.image.proofs.layout.Image.record_from.Goals as goal

pub returns : goal.returns
returns c = c.record_at.ensures ∙ rw c.saturating_add.ensures (capped-record _ _ _ c.words.ensures.1.1)
