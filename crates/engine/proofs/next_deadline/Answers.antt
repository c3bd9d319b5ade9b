-- `engine::next_deadline` meets its contract. Assumes nothing.
use Rattle.std.proofs.lemmas.Result.{err_from_is_err_and}
use mathlib.Core.Path.{refl}
use Rattle.model.specs.Calls.{deadline}
use Rattle.engine.specs.Answers.{due_values}
use Rattle.engine.proofs.Seeing.{refused-seen}
use Rattle.engine.proofs.WordLaws.{saying}
use Rattle.engine.proofs.DeadlineLaws.{deadline-on, deadline-seen}
use Rattle.engine.proofs.next_deadline.Goals as goal

pub returns-in_err-checked : goal.returns-in_err-checked
returns-in_err-checked c =
    let p = err_from_is_err_and c.from_residual.result c.from_residual.ensures.1 in
    rw (p.1, p.2) (refused-seen _ _ c.in_err-checked.ensures.number due_values deadline _ _ (deadline-on _) refl refl)

pub returns : goal.returns
returns c = deadline-seen _ (saying _ _ c.in_ok-checked.ensures.value) _ c.next_deadline.ensures
