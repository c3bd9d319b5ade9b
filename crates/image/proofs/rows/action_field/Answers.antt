-- `image::rows::action_field` meets its contract. Assumes nothing.
use mathlib.Core.Path.{◌≡◌, sym, ◌∙◌}
use mathlib.Core.Bool.{true, false}
use lib.Dec.{ltb}
use borrow.Author.Tests.{ltb-true, ltb-false}
use Rattle.model.specs.Rows.{void, action_rows}
use Rattle.fields.proofs.Padded.{no_kind, field_at}
use Rattle.image.proofs.Padding.{row-is, past-fields}
use Rattle.image.proofs.rows.action_field.Goals as goal

pub returns-in-Some : goal.returns-in-Some
returns-in-Some c =
    let a = c.args in
    field_at void 5 action_rows a.kind a.j c.row_at.result _ c.field_at.ensures (c.row_at.ensures ∙ row-is 5 action_rows a.kind)

pub returns-in_default : goal.returns-in_default
returns-in_default c =
    let a = c.args in
    let h : ltb a.kind 29 ≡ true = sym c.in-Some.ensures.lookup.0 in
    past-fields a.kind a.j _ _ c.in-Some.ensures.lookup.1 (ltb-true a.kind 29 h) c.if-j-n.false

pub returns-in_default-2 : goal.returns-in_default-2
returns-in_default-2 c =
    let a = c.args in
    let h : ltb a.kind 29 ≡ false = sym (rw c.in_default.is at c.get.ensures.lookup.0) in
    no_kind void action_rows a.kind a.j (ltb-false a.kind 29 h)
