-- `world::table::Table::words` meets its contract. Assumes nothing.
use native.Mathlib.Omega.{arith}
use Rattle.world.proofs.Cells.{table-inside}
use Rattle.world.proofs.table.Table.words.Goals as goal

pub slice_bounds-result-end : goal.slice_bounds-result-end
slice_bounds-result-end c =
    omega (arith, c.start-start.ensures, c.length.ensures, table-inside c.args.s.now c.requires c.args.self)
