-- `image::layout::Image::places_fit` meets its contract. Assumes nothing.
use mathlib.Core.Path.{◌∙◌}
use borrow.Author.Rules.{rules}
use borrow.Author.Tests.{eq-eqb, ne_eqb}
use Rattle.std.proofs.lemmas.Iterator.{YieldsList-from_slice}
use Rattle.std.proofs.lemmas.Iterator.Search.{all_from_yields_List}
use Rattle.model.specs.Image.{place_fits, places_fit}
use Rattle.image.specs.Tables.{number_of}
use Rattle.image.proofs.EachTable.{tables, each}
use Rattle.image.proofs.layout.Image.places_fit.Goals as goal

pub returns-then-start_of-eq0 : goal.returns-then-start_of-eq0
unfolding places_fit
returns-then-start_of-eq0 c =
    let img = c.args.self.now in
    rw (← c.start_of.ensures, eq-eqb _ _ c.if-start_of-eq0.true)
    (all_from_yields_List (λ t. place_fits img (number_of t)) _ _ _ c.all.ensures.ran (YieldsList-from_slice tables cc) (λ x b q k. search rules) ∙ each (place_fits img))

pub returns-else-start_of-eq0 : goal.returns-else-start_of-eq0
unfolding places_fit
returns-else-start_of-eq0 c = rw (← c.start_of.ensures, ne_eqb _ _ c.if-start_of-eq0.false)
