-- `play::calls::readback` meets its contract. Assumes nothing.
use Rattle.std.proofs.Common.{length, min, take}
use Rattle.std.proofs.lemmas.Result.{err_from_is_err_and}
use Rattle.model.specs.Readback.{readback_on}
use Rattle.script.specs.declared.calls.Call.TheVariants.{Readback}
use Rattle.play.specs.Printed.{readback_lines}
use Rattle.play.proofs.Calling.{lent-first, lent-length, asked, asked-refused}
use Rattle.play.proofs.calls.readback.Goals as goal

pub returns-in_err-accepted : goal.returns-in_err-accepted
returns-in_err-accepted c =
    let s = c.args in
    let e = rw (lent-first s.size c.min-n.result s.store.now c.min-n.ensures, lent-length s.room c.min-es.result s.effects.now c.min-es.ensures) at c.cerambiu_readback.ensures in
    let p = err_from_is_err_and c.from_residual.result c.from_residual.ensures.1 in
    rw (p.1, p.2) (asked-refused (readback_on s.rule s.snapshot.now (min s.room (length s.effects.now)) (take s.size s.store.now)) Readback readback_lines _ _ _ e _ _ _ c.in_err-accepted.ensures)

pub returns : goal.returns
returns c =
    let s = c.args in
    let e = rw (lent-first s.size c.min-n.result s.store.now c.min-n.ensures, lent-length s.room c.min-es.result s.effects.now c.min-es.ensures) at c.cerambiu_readback.ensures in
    asked (readback_on s.rule s.snapshot.now (min s.room (length s.effects.now)) (take s.size s.store.now)) Readback readback_lines _ _ _ e _ _ _ c.in_ok-accepted.ensures c.readback.ensures
