-- `state::table::move_row` meets its contract. Assumes nothing.
use Rattle.state.proofs.Tables.{row_moved}
use Rattle.state.proofs.table.move_row.Goals as goal

pub returns : goal.returns
returns c = rw c.copy_within.ensures (row_moved _ _ _ _ c.requires.0 c.requires.2 c.requires.1)
