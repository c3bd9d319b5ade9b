-- `play::calls::room` meets its contract. Assumes nothing.
use Rattle.std.proofs.lemmas.Result.{err_from_is_err_and}
use Rattle.room.specs.Needed.{room_for}
use Rattle.script.specs.declared.calls.Call.TheVariants.{RoomFor}
use Rattle.play.specs.Printed.{room_lines}
use Rattle.play.proofs.Calling.{asked, asked-refused}
use Rattle.play.proofs.calls.room.Goals as goal

pub returns-in_err-accepted : goal.returns-in_err-accepted
returns-in_err-accepted c =
    let p = err_from_is_err_and c.from_residual.result c.from_residual.ensures.1 in rw (p.1, p.2) (λ w. asked-refused (room_for c.args.image.now) RoomFor room_lines _ _ _ c.cerambiu_room.ensures w _ _ c.in_err-accepted.ensures)

pub returns : goal.returns
returns c = λ w. asked (room_for c.args.image.now) RoomFor room_lines _ _ _ c.cerambiu_room.ensures w _ _ c.in_ok-accepted.ensures c.room.ensures
