-- `engine::counters` meets its contract. Assumes nothing.
use Rattle.std.proofs.lemmas.Result.{err_from_is_err_and}
use mathlib.Core.Path.{refl}
use Rattle.model.specs.Calls.{counters}
use Rattle.engine.specs.Answers.{counter_values}
use Rattle.engine.proofs.Seeing.{refused-seen, counters-on, counters-seen}
use Rattle.engine.proofs.WordLaws.{saying}
use Rattle.engine.proofs.counters.Goals as goal

pub returns-in_err-checked : goal.returns-in_err-checked
returns-in_err-checked c =
    let p = err_from_is_err_and c.from_residual.result c.from_residual.ensures.1 in
    rw (p.1, p.2) (refused-seen _ _ c.in_err-checked.ensures.number counter_values counters _ _ (counters-on _) refl refl)

pub returns : goal.returns
returns c =
    let k = saying _ _ c.in_ok-checked.ensures.value in
    counters-seen _ _ k.store k.is k.written c.counters.ensures
