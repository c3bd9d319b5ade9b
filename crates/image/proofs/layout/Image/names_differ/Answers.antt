-- `image::layout::Image::names_differ` meets its contract. Assumes nothing.
use mathlib.Core.Path.{◌∙◌}
use Rattle.model.specs.Image.{width_of, names_differ}
use Rattle.image.proofs.layout.Image.names_differ.Goals as goal

pub returns : goal.returns
unfolding names_differ width_of
returns c =
    let e = c.records-rules.ensures in
    c.distinct.ensures ∙ rw (e.0, e.1, e.2, c.size_of.ensures)
