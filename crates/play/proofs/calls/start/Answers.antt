-- `play::calls::start` meets its contract. Assumes nothing.
use Rattle.std.proofs.Common.{take}
use Rattle.std.proofs.lemmas.Result.{err_from_is_err_and}
use Rattle.engine.specs.Asked.{next_start_on}
use Rattle.script.specs.declared.calls.Call.TheVariants.{Start}
use Rattle.play.specs.Printed.{start_lines}
use Rattle.play.proofs.Calling.{lent-first, asked, asked-refused}
use Rattle.play.proofs.calls.start.Goals as goal

pub returns-in_err-accepted : goal.returns-in_err-accepted
returns-in_err-accepted c =
    let e = rw (lent-first c.args.size c.min-n.result c.args.store.now c.min-n.ensures) at c.cerambiu_next_start.ensures in
    let p = err_from_is_err_and c.from_residual.result c.from_residual.ensures.1 in rw (p.1, p.2) (asked-refused (next_start_on c.args.snapshot.now (take c.args.size c.args.store.now)) Start start_lines _ _ _ e _ _ _ c.in_err-accepted.ensures)

pub returns : goal.returns
returns c =
    let e = rw (lent-first c.args.size c.min-n.result c.args.store.now c.min-n.ensures) at c.cerambiu_next_start.ensures in
    asked (next_start_on c.args.snapshot.now (take c.args.size c.args.store.now)) Start start_lines _ _ _ e _ _ _ c.in_ok-accepted.ensures c.start.ensures
