-- `exec::variables::assign` meets its contract. Assumes nothing.
use Rattle.model.specs.Actions.{no_effect, fails, var_set}
use Rattle.state.specs.Named.{lacks_room}
use Rattle.exec.proofs.Follows.{does-nothing, does-fail, follows, assigned-wet, assigned-full, has-room, no-room}
use Rattle.exec.proofs.variables.assign.Goals as goal

pub returns : goal.returns
unfolding var_set lacks_room
returns c e =
    let t = c.try_set_variable.ensures in
    let room = has-room _ _ t.room c.if-not-try_set_variable.false in
    rw (c.if-env.false, room) (follows no_effect _ _ _ _ (assigned-wet _ _ _ _ room t.means) does-nothing)

pub returns-then-not-try_set_variable : goal.returns-then-not-try_set_variable
unfolding var_set lacks_room
returns-then-not-try_set_variable c e =
    let t = c.try_set_variable.ensures in
    let full = no-room _ _ t.room c.if-not-try_set_variable.true in
    rw (c.if-env.false, full) (follows fails _ _ _ _ (assigned-full _ _ _ _ full t.means) does-fail)
