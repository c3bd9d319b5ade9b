-- `world::check::tables_distinct` meets its contract. Assumes nothing.
use mathlib.Core.Path.{◌∙◌}
use borrow.Author.Rules.{rules}
use Rattle.std.proofs.lemmas.Iterator.{YieldsList-from_slice}
use Rattle.model.specs.Snapshot.{table_distinct}
use Rattle.fields.proofs.Chains.{computes-all}
use Rattle.world.specs.Tables.{number}
use Rattle.world.specs.declared.table.Table.{Table}
use Rattle.world.proofs.Tables.{tables, all-tables}
use Rattle.world.proofs.check.tables_distinct.Goals as goal

pub returns : goal.returns
returns c =
    computes-all {l = tables} _ _ (λ (t : Table). table_distinct c.args.s.now (number t)) _ c.all.ensures.ran (YieldsList-from_slice tables cc) (λ x b q k. search rules)
    ∙ all-tables (table_distinct c.args.s.now)
