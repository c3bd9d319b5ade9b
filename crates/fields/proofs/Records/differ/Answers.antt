-- `fields::Records::differ` meets its contract. Assumes nothing.
use mathlib.Core.Path.{refl, ap}
use mathlib.Core.Bool.{not}
use borrow.Author.Rules.{rules}
use Rattle.fields.proofs.Chains.{computes-every}
use Rattle.fields.proofs.Records.differ.Goals as goal

pub returns : goal.returns
returns c = ap not (computes-every _ _ _ _ _ _ c.all.ensures.ran refl (λ x b q k. search rules))
