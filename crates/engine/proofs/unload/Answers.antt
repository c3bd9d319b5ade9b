-- `engine::unload` meets its contract. Assumes nothing.
use Rattle.std.proofs.lemmas.Result.{err_from_is_err_and}
use mathlib.Core.Path.{refl, sym, ◌∙◌}
use native.Mathlib.Omega.{arith}
use Rattle.model.specs.Calls.{unload}
use Rattle.engine.specs.Answers.{no_values}
use Rattle.engine.proofs.Seeing.{refused-seen}
use Rattle.engine.proofs.SizedLaws.{unsized-number, array-is}
use Rattle.engine.proofs.WordLaws.{saying}
use Rattle.engine.proofs.CallLaws.{itself, unload-on, unload-seen}
use Rattle.engine.proofs.unload.Goals as goal

pub returns-in_err-words : goal.returns-in_err-words
returns-in_err-words c =
    let n = unsized-number _ _ _ c.as_mut_array.ensures.cases (sym c.ok_or.ensures.value ∙ c.in_err-words.was) in
    let p = err_from_is_err_and c.from_residual.result c.from_residual.ensures.1 in
    rw (p.1, p.2) (refused-seen _ _ n no_values (unload c.args.time) _ _ (unload-on c.args.time _) refl refl)

pub returns-in_err-checked : goal.returns-in_err-checked
returns-in_err-checked c =
    let s = array-is _ _ _ c.as_mut_array.ensures.cases (sym c.ok_or.ensures.value ∙ c.in_ok-words.was) in
    let p = err_from_is_err_and c.from_residual-in_err-checked.result c.from_residual-in_err-checked.ensures.1 in
    rw (p.1, p.2, ← s.same) (refused-seen _ _ c.in_err-checked.ensures.number no_values (unload c.args.time) _ _ (unload-on c.args.time _) refl refl)

pub put_state-requires : goal.put_state-requires
put_state-requires c = itself c.without_set.ensures

pub returns : goal.returns
returns c =
    let s = array-is _ _ _ c.as_mut_array.ensures.cases (sym c.ok_or.ensures.value ∙ c.in_ok-words.was) in
    rw (← s.same)
    (unload-seen c.args.time _ _ _ _ _ (omega (arith, c.ranges.time)) (saying _ _ c.in_ok-checked.ensures.value)
    c.without_set.ensures
    c.put_unloaded.ensures
    c.put_state.ensures
    c.put_last.ensures)
