-- `store::cells::all_zero` meets its contract. Assumes nothing.
use Rattle.std.proofs.Common.{arith}
use Rattle.std.proofs.lemmas.Grind.{common_steps}
use Rattle.store.proofs.RowCells.{zeros-short, none-used}
use Rattle.store.proofs.cells.all_zero.Goals as goal

pub returns-then-s-k : goal.returns-then-s-k
returns-then-s-k c = zeros-short _ _ _ c.if-s-k.true

pub returns : goal.returns
returns c = grind (arith, common_steps, none-used)
