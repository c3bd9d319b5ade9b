-- `store::set::image_in` meets its contract. Assumes nothing.
use native.Mathlib.Omega.{arith}
use mathlib.Core.Path.{refl, ap, ◌∙◌}
use Rattle.store.proofs.Parts.{image-part, image-inside}
use Rattle.store.proofs.Ranges.{found}
use Rattle.store.proofs.set.image_in.Goals as goal

pub returns : goal.returns
returns c = λ r.
    ap (λ x. x.now) c.unwrap_or.ensures
    ∙ found c.args.store.now _ _ c.get.result _ c.get.ensures.lookup (omega arith) (image-inside c.args.store.now r c.at.result _ c.at.ensures refl)
    ∙ image-part c.args.store.now r c.at.result _ c.at.ensures refl
