-- `room::starts` meets its contract: the triggers so far, and those that are left. Assumes nothing.
use native.Mathlib.Omega.{arith}
use Rattle.room.proofs.Counting.{ends, starts-sum}
use Rattle.room.proofs.starts.Goals as goal

pub returns : goal.returns
returns c =
    let v = c.loop-trigger.invariant in
    let n = c.in-None.ensures.steps.0 in
    (starts-sum _ _ _ _ _ _ (ends _ _ _ _ n v.1) (ends _ _ _ _ n v.2) (ends _ _ _ _ n v.3) c.min.ensures c.min-2.ensures, omega (arith, v.0, v.2.few, c.min.ensures, c.min-2.ensures))
