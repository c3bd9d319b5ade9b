-- `state::table::first_with` meets its contract: none of the rows passed has the word. Assumes nothing.
use mathlib.Core.Path.{sym, ap, ◌∙◌}
use mathlib.Core.List.{[]}
use native.Mathlib.Omega.{arith}
use borrow.Author.Tests.{eq-eqb, ne_eqb}
use Rattle.state.specs.Cuts.{has_word}
use Rattle.state.proofs.Found.{goes_on, stops, ends}
use Rattle.state.proofs.Tables.{rows_long}
use Rattle.state.proofs.table.first_with.Goals as goal

pub returns-then-word-x : goal.returns-then-word-x
returns-then-word-x c =
    let long = rows_long _ _ c.requires.0 in
    stops (has_word c.args.at c.args.x) _ _ c.loop-i.invariant [] (rw long c.loop-i-test.true)
    (ap (has_word c.args.at c.args.x) (sym c.row_of.ensures.is) ∙ eq-eqb _ _ c.if-word-x.true)

pub loop-i-preserved : goal.loop-i-preserved
loop-i-preserved c =
    let long = rows_long _ _ c.requires.0 in
    goes_on (has_word c.args.at c.args.x) _ _ c.loop-i.invariant [] (rw long c.loop-i-test.true)
    (ap (has_word c.args.at c.args.x) (sym c.row_of.ensures.is) ∙ ne_eqb _ _ c.if-word-x.false)

pub returns : goal.returns
returns c =
    let long = rows_long _ _ c.requires.0 in
    ends (has_word c.args.at c.args.x) _ _ c.loop-i.invariant _ (omega arith) (omega arith) (sym long)
