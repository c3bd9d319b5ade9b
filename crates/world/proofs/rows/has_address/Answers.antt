-- `world::rows::has_address` meets its contract. Assumes nothing.
use mathlib.Core.Path.{refl}
use borrow.Author.Rules.{rules}
use Rattle.fields.proofs.Chains.{computes-every}
use Rattle.world.proofs.rows.has_address.Goals as goal

pub returns : goal.returns
returns c = computes-every _ _ _ _ _ _ c.all.ensures.ran refl (λ x b q k. search rules)
