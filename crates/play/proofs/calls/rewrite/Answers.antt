-- `play::calls::rewrite` meets its contract. Assumes nothing.
use Rattle.std.proofs.Common.{length, min}
use Rattle.std.proofs.lemmas.Result.{err_from_is_err_and}
use Rattle.model.specs.Rewrite.{rewritten}
use Rattle.script.specs.declared.calls.Call.TheVariants.{Rewrite}
use Rattle.play.specs.Printed.{rewrite_lines}
use Rattle.play.proofs.Calling.{lent-length, asked, asked-refused}
use Rattle.play.proofs.calls.rewrite.Goals as goal

pub returns-in_err-accepted : goal.returns-in_err-accepted
returns-in_err-accepted c =
    let e = rw (lent-length c.args.room c.min-n.result c.args.effects.now c.min-n.ensures) at c.cerambiu_rewrite.ensures in
    let p = err_from_is_err_and c.from_residual.result c.from_residual.ensures.1 in rw (p.1, p.2) (λ w. asked-refused (rewritten c.args.image.now (min c.args.room (length c.args.effects.now))) Rewrite rewrite_lines _ _ _ e w _ _ c.in_err-accepted.ensures)

pub returns : goal.returns
returns c =
    let e = rw (lent-length c.args.room c.min-n.result c.args.effects.now c.min-n.ensures) at c.cerambiu_rewrite.ensures in
    λ w. asked (rewritten c.args.image.now (min c.args.room (length c.args.effects.now))) Rewrite rewrite_lines _ _ _ e w _ _ c.in_ok-accepted.ensures c.rewrite.ensures
