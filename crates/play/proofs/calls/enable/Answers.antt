-- `play::calls::enable` meets its contract. Assumes nothing.
use Rattle.std.proofs.lemmas.Result.{err_from_is_err_and}
use Rattle.cerambiu.specs.Called.{called}
use Rattle.play.proofs.Calling.{made, refused}
use Rattle.play.proofs.calls.enable.Goals as goal

pub returns-in_err-accepted : goal.returns-in_err-accepted
unfolding called
returns-in_err-accepted c =
    let p = err_from_is_err_and c.from_residual.result c.from_residual.ensures.1 in rw (p.1, p.2)
    (refused _ _ _ _ c.min-n.ensures _ c.cerambiu_enable.ensures _ _ c.in_err-accepted.ensures)

pub returns : goal.returns
unfolding called
returns c = made _ _ _ _ c.min-n.ensures _ c.cerambiu_enable.ensures _ _ c.in_ok-accepted.ensures c.enabled.ensures
