-- `image::rows::value_row` meets its contract. Assumes nothing.
use native.Mathlib.Omega.{arith}
use Rattle.image.proofs.Padding.{reference-is}
use Rattle.image.proofs.rows.value_row.Goals as goal

pub returns-in-1 : goal.returns-in-1
returns-in-1 c =
    let e = c.row_at.ensures in
    rw (c.in-1.is, reference-is c.args.code _ e _ 0 (omega arith), reference-is c.args.code _ e _ 1 (omega arith), reference-is c.args.code _ e _ 2 (omega arith))

pub returns-in-2 : goal.returns-in-2
returns-in-2 c =
    let e = c.row_at.ensures in
    rw (c.in-2.is, reference-is c.args.code _ e _ 0 (omega arith), reference-is c.args.code _ e _ 1 (omega arith), reference-is c.args.code _ e _ 2 (omega arith))
