-- `short_lists::checks::Sizes::record_passes` meets its contract. Assumes nothing.
use mathlib.Core.Path.{refl}
use borrow.Author.Rules.{rules}
use Rattle.fields.proofs.Chains.{computes-every}
use Rattle.short_lists.specs.Checks.{record_passes}
use Rattle.short_lists.proofs.checks.Sizes.record_passes.Goals as goal

pub returns : goal.returns
unfolding record_passes
returns c = computes-every _ _ _ _ _ _ c.all.ensures.ran refl (λ x b q k. search rules)
