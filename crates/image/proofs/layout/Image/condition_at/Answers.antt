-- `image::layout::Image::condition_at` meets its contract. Assumes nothing.
use mathlib.Core.Path.{sym, ◌∙◌}
use Rattle.image.proofs.Rules.{condition-at}
use Rattle.image.proofs.layout.Image.condition_at.Goals as goal

pub returns : goal.returns
returns c =
    c.condition_of.ensures
    ∙ rw (c.record_from.ensures, c.word_at.ensures) (sym (condition-at c.args.self.now c.args.i c.args.k c.requires))
