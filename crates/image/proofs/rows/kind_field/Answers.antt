-- `image::rows::kind_field` meets its contract. Assumes nothing.
use mathlib.Core.Path.{refl}
use borrow.Author.Rules.{rules}
use Rattle.model.specs.Rows.{void, rows_of}
use Rattle.fields.proofs.Padded.{field_at}
use Rattle.image.specs.Tables.{number_of}
use Rattle.image.proofs.rows.kind_field.Goals as goal

pub returns-in_default : goal.returns-in_default
returns-in_default c =
    let a = c.args in
    search (rules, field_at void 5 (rows_of (number_of a.t) a.code) a.kind a.j c.row_of.result _ refl c.row_of.ensures)
