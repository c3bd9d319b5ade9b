-- `state::variables::assign` meets its contract: set again, new, or no room. Assumes nothing.
use native.Mathlib.Omega.{arith}
use Rattle.model.specs.Parts.{variable_row}
use Rattle.model.specs.Store.{variable_row_of}
use Rattle.model.proofs.PartsLaws.{variable-laws}
use Rattle.state.proofs.Typed.{has-room, holds-long, holds-count, holds-few, joined-room, joined-less}
use Rattle.state.proofs.Good.{variable-good, words-laid, are_words}
use Rattle.state.proofs.VariableRows.{assigned-again, assigned-new, row-there, row-none}
use Rattle.state.proofs.variables.assign.Goals as goal

pub put-requires : goal.put-requires
put-requires c = omega (arith, c.in-Some.ensures.1, holds-long variable_row variable-laws 16 _ _ c.requires, holds-few variable_row variable-laws 16 _ _ c.requires)

pub returns-in-Some-clause-holds : goal.returns-in-Some-clause-holds
returns-in-Some-clause-holds c =
    let put = c.put in
    let good = variable-good c.args.x (words-laid _ _ _ put.new.s put.ensures (are_words put.new.s (λ i. omega (arith, c.type_inv.t i)))) in
    assigned-again _ _ _ _ c.requires _ c.in-Some.ensures good _ put.ensures

pub returns-in-Some-clause-room : goal.returns-in-Some-clause-room
returns-in-Some-clause-room c = row-there _ (variable_row_of c.args.x) _ _ c.in-Some.ensures.0 c.in-Some.ensures.1

pub try_push-requires-clause-counted : goal.try_push-requires-clause-counted
try_push-requires-clause-counted c = omega (arith, holds-long variable_row variable-laws 16 _ _ c.requires)

pub try_push-requires-clause-room : goal.try_push-requires-clause-room
try_push-requires-clause-room c l = has-room variable_row variable-laws 16 _ _ c.requires (omega arith) (omega arith) (omega (arith, l, holds-count variable_row variable-laws 16 _ _ c.requires))

pub returns-clause-holds : goal.returns-clause-holds
returns-clause-holds c =
    assigned-new _ _ _ _ c.requires c.in_default.ensures _
    (joined-room variable_row variable-laws 16 _ _ _ c.requires c.try_push.ensures.less _ _ (λ t. variable-good c.args.x (c.try_push.ensures.words t)) c.try_push.ensures.rows)

pub returns-clause-room : goal.returns-clause-room
returns-clause-room c =
    row-none _ (variable_row_of c.args.x) _ _ c.in_default.ensures _ (omega arith) (joined-less variable_row variable-laws 16 _ _ _ c.requires c.try_push.ensures.less)
