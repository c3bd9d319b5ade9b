-- `engine::readback` meets its contract. Assumes nothing.
use Rattle.std.proofs.lemmas.Result.{err_from_is_err_and}
use mathlib.Core.Path.{sym}
use lib.ListN.{length}
use Rattle.engine.proofs.HandlingLaws.{zeros-all}
use Rattle.engine.proofs.ReadbackLaws.{readback-shown, readback-refused}
use Rattle.engine.proofs.readback.Goals as goal

pub returns-in_err-checked : goal.returns-in_err-checked
returns-in_err-checked c =
    let p = err_from_is_err_and c.from_residual.result c.from_residual.ensures.1 in
    rw (p.1, p.2) (readback-refused c.args.rule c.args.snapshot.now _ _ _ c.clear.ensures _ c.in_err-checked.ensures.number)

pub readback-requires : goal.readback-requires
readback-requires c = zeros-all _ (length c.args.starts.now) c.clear.ensures

pub returns : goal.returns
returns c =
    let o = c.in_ok-checked.ensures in
    readback-shown c.args.rule c.args.snapshot.now _ _ _ c.clear.ensures _ o.value (sym (rw o.value at o.number)) (rw o.accepted at c.readback.ensures)
