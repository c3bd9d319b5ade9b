-- `play::calls::short_list` meets its contract. Assumes nothing.
use Rattle.std.proofs.Common.{take, drop, ap, ◌∙◌}
use Rattle.std.proofs.lemmas.Result.{err_from_is_err_and}
use Rattle.model.specs.ShortLists.{short_list}
use Rattle.cerambiu.specs.Told.{told}
use Rattle.script.specs.declared.calls.Call.TheVariants.{ShortList}
use Rattle.play.specs.Printed.{place_lines}
use Rattle.play.proofs.Calling.{three-parts, asked, asked-refused}
use Rattle.play.proofs.calls.short_list.Goals as goal

pub returns-in_err-accepted : goal.returns-in_err-accepted
returns-in_err-accepted c =
    let s = c.args in
    let p = err_from_is_err_and c.from_residual.result c.from_residual.ensures.1 in
    let e = c.cerambiu_short_list.ensures ∙ ap (told 16) (three-parts s.actions s.values _ _ s.list.now c.min-n.ensures c.min-m.ensures (short_list s.k)) in
    rw (p.1, p.2) (λ w. asked-refused (short_list s.k (take s.actions s.list.now) (take s.values (drop s.actions s.list.now)) (drop s.values (drop s.actions s.list.now))) ShortList place_lines _ _ _ e w _ _ c.in_err-accepted.ensures)

pub returns : goal.returns
returns c =
    let s = c.args in
    let e = c.cerambiu_short_list.ensures ∙ ap (told 16) (three-parts s.actions s.values _ _ s.list.now c.min-n.ensures c.min-m.ensures (short_list s.k)) in
    λ w. asked (short_list s.k (take s.actions s.list.now) (take s.values (drop s.actions s.list.now)) (drop s.values (drop s.actions s.list.now))) ShortList place_lines _ _ _ e w _ _ c.in_ok-accepted.ensures c.short_list.ensures
