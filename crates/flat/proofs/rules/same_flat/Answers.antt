-- `flat::rules::same_flat` meets its contract: the steps are compared as they are flattened. Assumes nothing.
use native.Mathlib.Omega.{arith}
use mathlib.Core.Path.{sym, ap, ◌∙◌}
use mathlib.Core.Bool.{true≢false}
use borrow.Author.Tests.{eqb-true, eqb-false}
use lib.Dec.{eqb}
use lib.Pointwise.{pointwise}
use Rattle.model.specs.Flat.{flatten_rules}
use Rattle.flat.proofs.Counts.{few-stored}
use Rattle.flat.proofs.FlatPart.{not_made, other-words, other-count, same_rows, same-words, rules-length}
use Rattle.flat.proofs.rules.same_flat.Goals as goal
use Rattle.flat.proofs.rules.same_flat.Goals.{then-same, else-same}

pub returns-in_default : goal.returns-in_default
returns-in_default c =
    let a = c.args in
    not_made (flatten_rules a.image.now) a.lists.now a.steps.now (rw c.in_default.is at c.flatten_image.ensures).1

pub overflow_mul-size : goal.overflow_mul-size
overflow_mul-size c =
    let i = c.args.image.now in
    let z = rw c.in-Ok.is at c.flatten_image.ensures in
    omega (arith, z.count, few-stored i z.few)

pub returns-then-size-steps : goal.returns-then-size-steps
returns-then-size-steps c =
    let a = c.args in
    let f = c.flatten_image in
    let z = rw c.in-Ok.is at f.ensures in
    let r = c.eq.ensures ∙ ap (pointwise eqb a.lists.now) c.as_slice.ensures ∙ same-words a.lists.now f.new.lists in
    elim c.if-same.branch [
      | then-same w ↦ same_rows (flatten_rules a.image.now) a.lists.now a.steps.now _ _ f.new.words f.new.lists z w.if-same.true (eqb-true _ _ (sym w.value-is ∙ c.if-size-steps.true))
          f.auto.lists (omega (arith, rules-length a.image.now, c.requires.rules_bound)) c.eq.result r
      | else-same w ↦ absurd (true≢false (sym c.if-size-steps.true ∙ w.value-is ∙ w.if-same.false))
    ]

pub returns-else-size-steps : goal.returns-else-size-steps
returns-else-size-steps c =
    let a = c.args in
    let f = c.flatten_image in
    let z = rw c.in-Ok.is at f.ensures in
    let other = other-words (flatten_rules a.image.now) a.lists.now a.steps.now _ _ f.new.words f.new.lists z in
    let count = other-count (flatten_rules a.image.now) a.lists.now a.steps.now _ _ f.new.words f.new.lists z in
    c.if-size-steps.false ∙ elim c.if-same.branch [
      | then-same w ↦ count (eqb-false _ _ (sym w.value-is ∙ c.if-size-steps.false))
      | else-same w ↦ other w.if-same.false
    ]
