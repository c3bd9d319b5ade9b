-- `image::layout::Image::condition_count` meets its contract. Assumes nothing.
use mathlib.Core.Path.{sym, ◌∙◌}
use Rattle.image.proofs.Rules.{condition-count}
use Rattle.image.proofs.layout.Image.condition_count.Goals as goal

pub returns : goal.returns
returns c = let a = c.args in c.word_at.ensures ∙ sym (condition-count a.self.now a.i)
