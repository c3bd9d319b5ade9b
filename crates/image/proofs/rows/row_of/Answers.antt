-- `image::rows::row_of` meets its contract: the tables are the specification's, padded. Assumes nothing.
use Rattle.model.specs.Rows.{action_rows}
use Rattle.image.proofs.Padding.{row-is}
use Rattle.image.proofs.rows.row_of.Goals as goal

pub returns-in-Actions : goal.returns-in-Actions
returns-in-Actions c = rw (c.in-Actions.is, c.row_at-in-Actions.ensures) (row-is 5 action_rows c.args.kind)
