-- `flat::body::after_body` meets its contract: the part of the words that the after's row names. Assumes nothing.
use mathlib.Core.Path.{refl}
use Rattle.flat.proofs.Parts.{no_row, other_row, body-row}
use Rattle.flat.proofs.body.after_body.Goals as goal
use Rattle.flat.proofs.body.after_body.Goals.{then-len-i-via-then-len-i, then-len-i-via-else-len-i+then-part-i}

pub returns-then-len-i : goal.returns-then-len-i
returns-then-len-i c = elim c.then-len-i.branch [
  | then-len-i-via-then-len-i w ↦ no_row c.args.part.now c.args.i w.if-len-i.true
  | then-len-i-via-else-len-i+then-part-i w ↦ other_row c.args.part.now c.args.i w.if-part-i.true
]

pub returns : goal.returns
returns c =
    let a = c.args in
    let p = c.place-from.ensures in
    let q = c.place-size.ensures in
    body-row a.part.now a.i _ _ _ _ c.if-len-i.false c.if-part-i.false refl refl
    (record { inside = p.0; there = p.1; past = p.2 }) (record { inside = q.0; there = q.1; past = q.2 })
