-- `store::cells::cell_fits` meets its contract. Assumes nothing.
use Rattle.std.proofs.Common.{arith}
use Rattle.std.proofs.lemmas.Grind.{common_steps}
use Rattle.store.proofs.RowCells.{cell-here, cell-past}
use Rattle.store.proofs.cells.cell_fits.Goals as goal

pub returns-then-s-k : goal.returns-then-s-k
returns-then-s-k c = grind (arith, common_steps, cell-here, cell-past)

pub returns-then-w-ne0 : goal.returns-then-w-ne0
returns-then-w-ne0 c = grind (arith, common_steps, cell-here, cell-past)

pub returns-else-w-ne0 : goal.returns-else-w-ne0
returns-else-w-ne0 c = grind (arith, common_steps, cell-here, cell-past)

pub returns-else-w-cell : goal.returns-else-w-cell
returns-else-w-cell c = grind (arith, common_steps, cell-here, cell-past)
