-- `exec::timers::arm_timer` meets its contract. Assumes nothing.
use mathlib.Core.Path.{◌∙◌}
use Rattle.words.proofs.Laws.{sum_is}
use Rattle.model.specs.Actions.{no_effect, fails, arm_timer}
use Rattle.exec.proofs.Follows.{does-nothing, does-fail, follows, armed-wet, armed-full, has-room, no-room, due-is}
use Rattle.exec.proofs.timers.arm_timer.Goals as goal

pub returns : goal.returns
unfolding arm_timer
returns c image flat s =
    let t = c.try_arm_timer.ensures in
    let room = has-room _ _ t.room c.if-not-try_arm_timer.false in
    let due = due-is _ _ _ _ (rw c.from.ensures at (c.saturating_add-due.ensures ∙ sum_is _ _ _)) c.now_ms.ensures in
    rw (c.if-env.false, room, ← due) (follows no_effect _ _ _ _ (armed-wet _ _ _ _ room t.means) does-nothing)

pub returns-then-not-try_arm_timer : goal.returns-then-not-try_arm_timer
unfolding arm_timer
returns-then-not-try_arm_timer c image flat s =
    let t = c.try_arm_timer.ensures in
    let full = no-room _ _ t.room c.if-not-try_arm_timer.true in
    rw (c.if-env.false, full) (follows fails _ _ _ _ (armed-full _ _ _ _ full t.means) does-fail)
