-- `short_lists::short_list` meets its contract. Assumes nothing.
use mathlib.Core.Path.{sym, ◌∙◌}
use native.Mathlib.Omega.{arith}
use Rattle.short_lists.proofs.CodeLaws.{some-records, refuse-70, refuse-71, refuse-72, give}
use Rattle.short_lists.proofs.short_list.Goals as goal

pub returns-then-not-actions_fit : goal.returns-then-not-actions_fit
returns-then-not-actions_fit c = refuse-70 _ _ _ _ (sym c.actions_fit.ensures ∙ c.if-not-actions_fit.true)

pub records_fit-requires : goal.records_fit-requires
records_fit-requires c = (some-records _ (sym c.actions_fit.ensures ∙ c.if-not-actions_fit.false)).0

pub returns-then-not-records_fit : goal.returns-then-not-records_fit
returns-then-not-records_fit c =
    refuse-71 _ _ _ _ (sym c.actions_fit.ensures ∙ c.if-not-actions_fit.false) (sym c.records_fit.ensures ∙ c.if-not-records_fit.true)

pub overflow_cast-n : goal.overflow_cast-n
overflow_cast-n c = let z = some-records _ (sym c.actions_fit.ensures ∙ c.if-not-actions_fit.false) in omega (arith, z.0, z.1)

pub count-requires : goal.count-requires
count-requires c = let z = some-records _ (sym c.actions_fit.ensures ∙ c.if-not-actions_fit.false) in omega (arith, z.0, z.1)

pub returns-then-count-k : goal.returns-then-count-k
returns-then-count-k c =
    refuse-72 _ _ _ _ (sym c.actions_fit.ensures ∙ c.if-not-actions_fit.false) (sym c.records_fit.ensures ∙ c.if-not-records_fit.false)
    _ c.count.ensures c.if-count-k.true

pub places-requires : goal.places-requires
places-requires c =
    let z = some-records _ (sym c.actions_fit.ensures ∙ c.if-not-actions_fit.false) in
    (omega (arith, z.0), omega (arith, z.1), omega (arith, c.count.ensures, c.if-count-k.false))

pub returns : goal.returns
returns c =
    give _ _ _ _ (sym c.actions_fit.ensures ∙ c.if-not-actions_fit.false) (sym c.records_fit.ensures ∙ c.if-not-records_fit.false)
    _ c.count.ensures c.if-count-k.false _ c.places.ensures
