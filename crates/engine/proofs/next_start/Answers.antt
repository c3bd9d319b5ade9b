-- `engine::next_start` meets its contract. Assumes nothing.
use Rattle.std.proofs.lemmas.Result.{err_from_is_err_and}
use mathlib.Core.Path.{sym}
use Rattle.engine.proofs.StartLaws.{start-shown, start-refused}
use Rattle.engine.proofs.next_start.Goals as goal

pub returns-in_err-checked : goal.returns-in_err-checked
returns-in_err-checked c =
    let p = err_from_is_err_and c.from_residual.result c.from_residual.ensures.1 in
    rw (p.1, p.2) (start-refused c.args.snapshot.now _ _ c.in_err-checked.ensures.number)

pub returns : goal.returns
returns c =
    let o = c.in_ok-checked.ensures in
    start-shown c.args.snapshot.now _ _ _ o.value (sym (rw o.value at o.number)) (rw o.accepted at c.next_start.ensures)
