-- `exec::steps::after_prim` meets its contract. Assumes nothing.
use mathlib.Core.Path.{◌≡◌, sym, ◌∙◌}
use Rattle.std.specs.Prelude.{None, Some}
use Rattle.state.specs.Reasons.{reason_number}
use Rattle.exec.specs.Done.{action_done}
use Rattle.exec.proofs.Stepped.{after-does}
use Rattle.exec.proofs.steps.after_prim.Goals as goal

pub returns-in-Ok : goal.returns-in-Ok
returns-in-Ok c v x d =
    let w = c.args.v.now in
    let n = c.count_failed.ensures in
    let r = c.goes_on.result in
    let reason : reason_number r.reason ≡ 0 = (c.goes_on.ensures w).reason in
    let next : r.next ≡ Some c.args.to = (c.goes_on.ensures w).next in
    rw (reason, next) (rw (sym n.0 ∙ c.in-Ok.is) at (after-does v _ (action_done w c.args.a) x c.args.to n.1 d))

pub returns-in-Err : goal.returns-in-Err
returns-in-Err c v x d =
    let w = c.args.v.now in
    let n = c.count_failed.ensures in
    let r = c.goes_on-in-Err.result in
    let effect : r.effect ≡ None = (c.goes_on-in-Err.ensures w).effect in
    let next : r.next ≡ Some c.args.to = (c.goes_on-in-Err.ensures w).next in
    rw (effect, next) (rw (sym n.0 ∙ c.in-Err.is) at (after-does v _ (action_done w c.args.a) x c.args.to n.1 d))
