-- `load::refusal` meets its contract. Assumes nothing.
use mathlib.Core.Path.{sym}
use Rattle.std.proofs.lemmas.Result.{err_from_is_err_and}
use Rattle.image.proofs.Accepted.{accepted}
use Rattle.model.proofs.RefusalLaws.{refusal-some}
use Rattle.load.proofs.Laws.{tables-refuse, tables-pass}
use Rattle.load.proofs.refusal.Goals as goal

pub returns-in-Err : goal.returns-in-Err
returns-in-Err c = tables-refuse _ _ c.in-Err.ensures (refusal-some _)

pub accepted-requires : goal.accepted-requires
accepted-requires c = accepted _ (sym c.in-Ok.ensures)

pub returns-in_err-accepted : goal.returns-in_err-accepted
returns-in_err-accepted c =
    let p = err_from_is_err_and c.from_residual.result c.from_residual.ensures.1 in
    rw (p.1, p.2) (tables-pass _ _ (sym c.in-Ok.ensures) c.in_err-accepted.ensures.number)

pub returns : goal.returns
returns c = tables-pass _ _ (sym c.in-Ok.ensures) c.in_ok-accepted.ensures.number
