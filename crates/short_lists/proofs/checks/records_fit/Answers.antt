-- `short_lists::checks::records_fit` meets its contract. Assumes nothing.
use mathlib.Core.Path.{sym, ◌∙◌}
use native.Mathlib.Omega.{arith}
use Rattle.short_lists.proofs.CodeLaws.{small, unsized, by-records}
use Rattle.short_lists.proofs.checks.records_fit.Goals as goal

pub returns-then-not-data_sized : goal.returns-then-not-data_sized
returns-then-not-data_sized c = unsized _ _ _ c.requires (sym c.data_sized.ensures ∙ c.if-not-data_sized.true)

pub overflow_cast-sizes : goal.overflow_cast-sizes
overflow_cast-sizes c = let s = small c.args.actions.now _ _ (sym c.data_sized.ensures ∙ c.if-not-data_sized.false) in omega (arith, s)

pub overflow_cast-sizes-2 : goal.overflow_cast-sizes-2
overflow_cast-sizes-2 c = let s = small c.args.actions.now _ _ (sym c.data_sized.ensures ∙ c.if-not-data_sized.false) in omega (arith, s)

pub returns-then-pool_passes : goal.returns-then-pool_passes
returns-then-pool_passes c =
    by-records _ _ _ c.requires _ (sym c.data_sized.ensures ∙ c.if-not-data_sized.false)
    (rw (← c.values_pass.ensures, c.if-values_pass.true, ← c.pool_passes.ensures, c.if-pool_passes.true) c.actions_pass.ensures)

pub returns-else-pool_passes : goal.returns-else-pool_passes
returns-else-pool_passes c =
    by-records _ _ _ c.requires _ (sym c.data_sized.ensures ∙ c.if-not-data_sized.false)
    (rw (← c.values_pass.ensures, c.if-values_pass.true, ← c.pool_passes.ensures, c.if-pool_passes.false))

pub returns-else-values_pass : goal.returns-else-values_pass
returns-else-values_pass c =
    by-records _ _ _ c.requires _ (sym c.data_sized.ensures ∙ c.if-not-data_sized.false)
    (rw (← c.values_pass.ensures, c.if-values_pass.false))
