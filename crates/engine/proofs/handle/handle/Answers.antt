-- `engine::handle::handle` meets its contract. Assumes nothing.
use Rattle.std.proofs.Common.{sym, ◌∙◌, rules}
use Rattle.std.proofs.lemmas.Result.{err_from_is_err_and}
use lib.ListN.{length}
use Rattle.wheel.proofs.Fires.{same-outcomes, same-effects}
use Rattle.engine.specs.Answers.{handled_values}
use Rattle.engine.proofs.InputLaws.{input-declined, input-ends, told-ends}
use Rattle.engine.proofs.SizedLaws.{unsized-lowest, array-is}
use Rattle.engine.proofs.handle.handle.Goals as goal

pub returns-in_err-words : goal.returns-in_err-words
returns-in_err-words c =
    let a = c.args in
    let n = unsized-lowest _ _ _ _ c.as_mut_array.ensures.cases (sym c.ok_or.ensures.value ∙ c.in_err-words.was) in
    let p = err_from_is_err_and c.from_residual.result c.from_residual.ensures.1 in
    rw (p.1, p.2) (input-declined handled_values a.input a.snapshot.now (length a.outcomes.now) (length a.effects.now) _ _ _ _ n c.clear.ensures c.clear-2.ensures)

pub returns-in_err-checked : goal.returns-in_err-checked
returns-in_err-checked c =
    let a = c.args in
    let s = array-is _ _ _ c.as_mut_array.ensures.cases (sym c.ok_or.ensures.value ∙ c.in_ok-words.was) in
    let p = err_from_is_err_and c.from_residual-in_err-checked.result c.from_residual-in_err-checked.ensures.1 in
    rw (p.1, p.2, ← s.same) (input-declined handled_values a.input a.snapshot.now (length a.outcomes.now) (length a.effects.now) _ _ _ _ c.in_err-checked.ensures.number c.clear.ensures c.clear-2.ensures)

pub returns : goal.returns
returns c =
    let a = c.args in
    let s = array-is _ _ _ c.as_mut_array.ensures.cases (sym c.ok_or.ensures.value ∙ c.in_ok-words.was) in
    let o = c.in_ok-checked.ensures in
    let d = c.dispatch.ensures in
    let e = c.commit.ensures in
    rw (← s.same)
    (told-ends c.commit.result _ (sym (e.same.0 ∙ d.same.0)) (search rules) (sym (e.same.1 ∙ d.same.1)) (search rules)
    (input-ends a.input a.snapshot.now _ (length a.outcomes.now) (length a.effects.now) _ _ _ _ _ _ _ _ _ _ _ _
    o.value (sym (rw o.value at o.number)) c.clear.ensures c.clear-2.ensures c.begin.ensures c.now_ms.ensures
    (rw o.accepted at d.does) (same-outcomes d.does) (same-effects d.does) e.ends))
