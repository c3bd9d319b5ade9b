-- `image::passing::Counted::tables_both` meets its contract. Assumes nothing.
use mathlib.Core.Path.{◌∙◌}
use borrow.Author.Rules.{rules}
use Rattle.std.proofs.lemmas.Iterator.{YieldsList-from_slice}
use Rattle.std.proofs.lemmas.Iterator.Search.{all_from_yields_List}
use Rattle.image.specs.Passing.{table_both}
use Rattle.image.specs.Tables.{number_of}
use Rattle.image.proofs.EachTable.{tables, each}
use Rattle.image.proofs.OnePass.{tables-split}
use Rattle.image.proofs.passing.Counted.tables_both.Goals as goal

pub returns : goal.returns
returns c =
    let img = c.args.self.now.image.now in
    all_from_yields_List (λ t. table_both img (number_of t)) _ _ _ c.all.ensures.ran (YieldsList-from_slice tables cc) (λ x b q k. search rules) ∙ (each (table_both img) ∙ tables-split img)
