-- `image::layout::Image::word_from` meets its contract. Assumes nothing.
use mathlib.Core.Path.{◌∙◌}
use Rattle.image.proofs.Far.{capped}
use Rattle.image.proofs.layout.Image.word_from.Goals as goal

pub returns : goal.returns
returns c = c.word_at.ensures ∙ rw (c.saturating_add.ensures, ← c.self.view_is) (capped _ _ _ _ c.self.invariant.1)
