-- `engine::enable` meets its contract. Assumes nothing.
use Rattle.std.proofs.lemmas.Result.{err_from_is_err_and}
use mathlib.Core.Path.{refl, sym, ◌∙◌}
use Rattle.model.specs.Calls.{enable}
use Rattle.engine.specs.Answers.{enabled_values}
use Rattle.engine.proofs.Seeing.{refused-seen}
use Rattle.engine.proofs.SizedLaws.{unsized-number, array-is}
use Rattle.engine.proofs.WordLaws.{saying}
use Rattle.engine.proofs.CallLaws.{itself, flipped-numbers, enable-on, enable-no, enable-yes}
use Rattle.engine.proofs.enable.Goals as goal

pub returns-in_err-words : goal.returns-in_err-words
returns-in_err-words c =
    let n = unsized-number _ _ _ c.as_mut_array.ensures.cases (sym c.ok_or.ensures.value ∙ c.in_err-words.was) in
    let p = err_from_is_err_and c.from_residual.result c.from_residual.ensures.1 in
    rw (p.1, p.2) (refused-seen _ _ n enabled_values (enable c.args.rule c.args.on) _ _ (enable-on c.args.rule c.args.on _) refl refl)

pub returns-in_err-checked : goal.returns-in_err-checked
returns-in_err-checked c =
    let a = c.args in
    let s = array-is _ _ _ c.as_mut_array.ensures.cases (sym c.ok_or.ensures.value ∙ c.in_ok-words.was) in
    let p = err_from_is_err_and c.from_residual-in_err-checked.result c.from_residual-in_err-checked.ensures.1 in
    rw (p.1, p.2, ← s.same) (refused-seen _ _ c.in_err-checked.ensures.number enabled_values (enable a.rule a.on) _ _ (enable-on a.rule a.on _) refl refl)

pub returns-in_default : goal.returns-in_default
returns-in_default c =
    let s = array-is _ _ _ c.as_mut_array.ensures.cases (sym c.ok_or.ensures.value ∙ c.in_ok-words.was) in
    rw (← s.same) (enable-no c.args.rule c.args.on _ (saying _ _ c.in_ok-checked.ensures.value) _ c.rule_in.ensures c.in_default.is)

pub put_state-requires : goal.put_state-requires
put_state-requires c =
    let k = saying _ _ c.in_ok-checked.ensures.value in
    itself (flipped-numbers _ _ k.store c.args.rule _ c.args.on (rw (c.v.view_is) at c.v.invariant) c.begin.ensures c.set_enabled.ensures)

pub returns : goal.returns
returns c =
    let k = saying _ _ c.in_ok-checked.ensures.value in
    let s = array-is _ _ _ c.as_mut_array.ensures.cases (sym c.ok_or.ensures.value ∙ c.in_ok-words.was) in
    rw (← s.same)
    (enable-yes c.args.rule _ c.args.on _ _ _ k _ c.rule_in.ensures c.in-Some.is
    (flipped-numbers _ _ k.store c.args.rule _ c.args.on (rw (c.v.view_is) at c.v.invariant) c.begin.ensures c.set_enabled.ensures)
    c.put_state.ensures)
