-- `image::layout::Image::table_passes` meets its contract. Assumes nothing.
use mathlib.Core.Path.{refl}
use borrow.Author.Rules.{rules}
use Rattle.fields.proofs.Chains.{computes-every}
use Rattle.image.proofs.layout.Image.table_passes.Goals as goal

pub returns : goal.returns
returns c = rw (← c.size_of.ensures) (computes-every _ _ _ _ _ _ c.all.ensures.ran refl (λ x b q k. search rules))
