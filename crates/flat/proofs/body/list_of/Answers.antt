-- `flat::body::list_of` meets its contract. Assumes nothing.
use mathlib.Core.Path.{◌∙◌}
use native.Mathlib.Omega.{arith}
use Rattle.flat.proofs.ListsOf.{none-there, body-there}
use Rattle.flat.proofs.body.list_of.Goals as goal

pub returns-then-part-own : goal.returns-then-part-own
returns-then-part-own c = none-there c.args.part.now c.args.own c.args.list c.if-part-own.true

pub returns : goal.returns
returns c = c.after_body.ensures ∙ body-there c.args.part.now c.args.own c.args.list _ c.if-list-eq0.false (omega arith)
