-- `image::layout::Image::tables_pass` meets its contract. Assumes nothing.
use mathlib.Core.Path.{◌∙◌}
use mathlib.Core.Bool.{false}
use borrow.Author.Rules.{rules}
use Rattle.std.proofs.lemmas.Iterator.{YieldsList-from_slice}
use Rattle.std.proofs.lemmas.Iterator.Search.{all_from_yields_List}
use Rattle.model.specs.Image.{table_passes, tables_pass}
use Rattle.image.specs.Tables.{number_of}
use Rattle.image.proofs.EachTable.{tables, each}
use Rattle.image.proofs.layout.Image.tables_pass.Goals as goal

pub returns : goal.returns
unfolding tables_pass
returns c =
    let img = c.args.self.now in
    all_from_yields_List (λ t. table_passes img false (number_of t)) _ _ _ c.all.ensures.ran (YieldsList-from_slice tables cc) (λ x b q k. search rules) ∙ each (table_passes img false)
