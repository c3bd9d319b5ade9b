-- `engine::load` meets its contract. Assumes nothing.
use Rattle.std.proofs.lemmas.Result.{err_from_is_err_and}
use mathlib.Core.Path.{refl, sym, ◌∙◌}
use native.Mathlib.Omega.{arith}
use Rattle.model.specs.Calls.{load}
use Rattle.engine.specs.Answers.{no_values}
use Rattle.engine.proofs.Seeing.{refused-seen}
use Rattle.engine.proofs.SizedLaws.{unsized-number, array-is}
use Rattle.engine.proofs.WordLaws.{saying}
use Rattle.engine.proofs.CallLaws.{itself, words-fit, load-on, load-refused, load-seen}
use Rattle.engine.proofs.load.Goals as goal

pub returns-in_err-words : goal.returns-in_err-words
returns-in_err-words c =
    let n = unsized-number _ _ _ c.as_mut_array.ensures.cases (sym c.ok_or.ensures.value ∙ c.in_err-words.was) in
    let p = err_from_is_err_and c.from_residual.result c.from_residual.ensures.1 in
    rw (p.1, p.2) (refused-seen _ _ n no_values (load c.args.time c.args.image.now) _ _ (load-on c.args.time c.args.image.now _) refl refl)

pub returns-in_err-checked : goal.returns-in_err-checked
returns-in_err-checked c =
    let a = c.args in
    let s = array-is _ _ _ c.as_mut_array.ensures.cases (sym c.ok_or.ensures.value ∙ c.in_ok-words.was) in
    let p = err_from_is_err_and c.from_residual-in_err-checked.result c.from_residual-in_err-checked.ensures.1 in
    rw (p.1, p.2, ← s.same) (refused-seen _ _ c.in_err-checked.ensures.number no_values (load a.time a.image.now) _ _ (load-on a.time a.image.now _) refl refl)

pub returns-in_err-loadable : goal.returns-in_err-loadable
returns-in_err-loadable c =
    let s = array-is _ _ _ c.as_mut_array.ensures.cases (sym c.ok_or.ensures.value ∙ c.in_ok-words.was) in
    let p = err_from_is_err_and c.from_residual-in_err-loadable.result c.from_residual-in_err-loadable.ensures.1 in
    rw (p.1, p.2, ← s.same) (load-refused no_values c.args.time c.args.image.now _ _ (saying _ _ c.in_ok-checked.ensures.value) c.in_err-loadable.ensures.number)

pub put_state-requires : goal.put_state-requires
put_state-requires c = itself c.with_set.ensures

pub returns : goal.returns
returns c =
    let img = c.args.image.now in
    let s = array-is _ _ _ c.as_mut_array.ensures.cases (sym c.ok_or.ensures.value ∙ c.in_ok-words.was) in
    rw (← s.same)
    (load-seen c.args.time img _ _ _ _ _ (omega (arith, c.ranges.time))
    (words-fit img (λ i. omega (arith, c.shared_slice_known-1.given i)))
    (sym c.in_ok-loadable.ensures.number) (saying _ _ c.in_ok-checked.ensures.value)
    (rw c.in_ok-loadable.ensures.value at c.with_set.ensures)
    (rw c.in_ok-loadable.ensures.value at c.put_loaded.ensures)
    c.put_state.ensures
    c.put_last.ensures)
