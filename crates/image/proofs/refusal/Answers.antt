-- `image::refusal` meets its contract. Assumes nothing.
use mathlib.Core.Path.{sym, ◌∙◌}
use Rattle.std.proofs.lemmas.Result.{err_from_is_err_and}
use Rattle.model.specs.Load.{tables_refusal}
use Rattle.image.proofs.Refusals.{refused, passed, good-of, bad-of, unless-not, unless-so}
use Rattle.image.proofs.refusal.Goals as goal

pub returns-in_err-image : goal.returns-in_err-image
unfolding tables_refusal
returns-in_err-image c =
    let p = err_from_is_err_and c.from_residual.result c.from_residual.ensures.1 in
    let q = bad-of _ _ _ _ (sym c.in_err-image.was ∙ c.of.ensures) in
    rw (p.1, p.2, q.1) (unless-not _ _ _ q.0)

pub returns-then-not-limits_fit : goal.returns-then-not-limits_fit
unfolding tables_refusal
returns-then-not-limits_fit c =
    let q = good-of _ _ _ _ (sym c.in_ok-image.was ∙ c.of.ensures) in
    unless-so _ _ _ _ q.0
    (rw (← q.1) (refused _ _ _ _ c.limits_fit.ensures c.if-not-limits_fit.true-raw))

pub returns-then-not-places_fit : goal.returns-then-not-places_fit
unfolding tables_refusal
returns-then-not-places_fit c =
    let q = good-of _ _ _ _ (sym c.in_ok-image.was ∙ c.of.ensures) in
    unless-so _ _ _ _ q.0
    (rw (← q.1)
    (passed _ _ _ _ _ c.limits_fit.ensures c.if-not-limits_fit.false-raw
    (refused _ _ _ _ c.places_fit.ensures c.if-not-places_fit.true-raw)))

pub returns : goal.returns
unfolding tables_refusal
returns c =
    let q = good-of _ _ _ _ (sym c.in_ok-image.was ∙ c.of.ensures) in
    unless-so _ _ _ _ q.0
    (rw (← q.1)
    (passed _ _ _ _ _ c.limits_fit.ensures c.if-not-limits_fit.false-raw
    (passed _ _ _ _ _ c.places_fit.ensures c.if-not-places_fit.false-raw
    (rw c.new.ensures at c.records_refusal.ensures))))
