-- `load::accepted` meets its contract. Assumes nothing.
use mathlib.Core.Path.{◌∙◌}
use borrow.Author.Tests.{not-true, not-false}
use Rattle.load.proofs.Laws.{checked, over, steps, few, many}
use Rattle.load.proofs.accepted.Goals as goal

pub flatten_rules-requires-clause-checked : goal.flatten_rules-requires-clause-checked
flatten_rules-requires-clause-checked c = checked _ c.requires.passes

pub returns-in-Err-clause-number : goal.returns-in-Err-clause-number
returns-in-Err-clause-number c = (over _ _ _ c.in-Err.ensures.value).1

pub returns-then-not-few_enough-clause-number : goal.returns-then-not-few_enough-clause-number
returns-then-not-few_enough-clause-number c =
    many _ _ (rw c.new-image.ensures at c.few_enough.ensures) (not-true _ c.if-not-few_enough.true-raw) ∙ steps _ _ _ c.in-Ok.ensures.value

pub returns-clause-number : goal.returns-clause-number
returns-clause-number c =
    few _ _ (rw c.new-image.ensures at c.few_enough.ensures) (not-false _ c.if-not-few_enough.false-raw) ∙ steps _ _ _ c.in-Ok.ensures.value
