-- `crontab::read` meets its contract. Assumes nothing.
use mathlib.Core.Path.{ap, ◌∙◌}
use lib.ListN.{length}
use Rattle.std.proofs.lemmas.Result.{err_from_is_err_and}
use Rattle.crontab.proofs.Lines.{refused-form, refused-room, accepted-is, sunday-low, marked-minutes, written_as}
use Rattle.crontab.proofs.read.Goals as goal

pub returns-in_err-check_form : goal.returns-in_err-check_form
returns-in_err-check_form c =
    let s = c.args in
    let p = err_from_is_err_and c.from_residual.result c.from_residual.ensures.1 in
    rw (p.1, p.2) (refused-form s.line.now s.sunday (length s.triggers.now) _ c.in_err-check_form.ensures c.clear.ensures)

pub returns-then-triggers-n : goal.returns-then-triggers-n
returns-then-triggers-n c =
    let s = c.args in
    let e = marked-minutes s.line.now _ _ c.of-marks.ensures.hours c.of-marks.ensures.minutes in
    refused-room s.line.now s.sunday (length s.triggers.now) c.in_ok-check_form.ensures
    _ (c.count-n.ensures.0 ∙ ap length e) c.if-triggers-n.true c.clear.ensures

pub days_of-ds-requires : goal.days_of-ds-requires
days_of-ds-requires c = sunday-low c.args.line.now c.args.sunday c.in_ok-check_form.ensures

pub returns : goal.returns
returns c =
    let s = c.args in
    let e = marked-minutes s.line.now _ _ c.of-marks.ensures.hours c.of-marks.ensures.minutes in
    accepted-is s.line.now s.sunday (length s.triggers.now) c.in_ok-check_form.ensures
    _ (c.count-n.ensures.0 ∙ ap length e) _ _ c.if-triggers-n.false c.days_of-ds.ensures c.clear.ensures (written_as _ _ _ e c.write.ensures)
