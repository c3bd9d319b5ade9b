-- `store::cells::Cells::row_fits` meets its contract. Assumes nothing.
use Rattle.std.proofs.Common.{rules, drop, ◌+◌, ◌∙◌, add-zero}
use Rattle.std.proofs.lemmas.Iterator.{YieldsList-from_slice}
use Rattle.std.proofs.lemmas.Iterator.Consumers.{YieldsList-from_enumerate}
use Rattle.std.proofs.lemmas.Iterator.Search.{all_from_yields_List}
use Rattle.store.specs.Cells.{cell_first}
use Rattle.store.proofs.RowCells.{cells_chain}
use Rattle.store.proofs.cells.Cells.row_fits.Goals as goal

pub returns : goal.returns
returns c =
    let a = c.args in
    all_from_yields_List (λ p. cell_first p.1 (drop (a.k + p.0) a.s.now)) _ _ _ c.all.ensures.ran (YieldsList-from_enumerate (YieldsList-from_slice a.self.now.cells.now cc) cc) (λ x b q h. search rules)
    ∙ cells_chain a.s.now a.self.now.cells.now 0 a.k ∙ rw add-zero
