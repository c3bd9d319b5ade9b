-- `eval::time::time_hour` meets its contract. Assumes nothing.
use mir.Facts.{to_z-of_z}
use mir.Syntax.{w64}
use mir.Val.{SFits}
use Rattle.model.specs.Eval.{eval_reading}
use Rattle.eval.proofs.time.time_hour.Goals as goal

pub returns : goal.returns
unfolding eval_reading
returns c s image flat =
    let fits : SFits w64 c.from.result = record { sfits = c.from.type_inv } in
    rw (← c.wall.ensures, c.in_ok-wall.was, to_z-of_z fits, c.from.ensures)
