-- `play::calls::deadline` meets its contract. Assumes nothing.
use Rattle.std.proofs.Common.{refl}
use Rattle.std.proofs.lemmas.Result.{err_from_is_err_and}
use Rattle.cerambiu.specs.Called.{called}
use Rattle.play.proofs.Calling.{made-reading, refused-reading}
use Rattle.play.proofs.calls.deadline.Goals as goal

pub returns-in_err-accepted : goal.returns-in_err-accepted
unfolding called
returns-in_err-accepted c =
    let p = err_from_is_err_and c.from_residual.result c.from_residual.ensures.1 in rw (p.1, p.2)
    (refused-reading _ _ _ _ c.min-n.ensures _ c.cerambiu_next_deadline.ensures _ _ refl c.in_err-accepted.ensures)

pub returns : goal.returns
unfolding called
returns c = made-reading _ _ _ _ c.min-n.ensures _ c.cerambiu_next_deadline.ensures _ _ refl c.in_ok-accepted.ensures c.deadline.ensures
