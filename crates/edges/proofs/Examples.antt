-- The worked examples: what the definitions give is what the table says, row by row.
use mathlib.Core.Path.{◌≡◌, refl}
use mathlib.Core.List.{map}
use Rattle.edges.specs.Samples.{Edge}
use Rattle.edges.specs.Examples.{examples, rows}
use Rattle.edges.proofs.Definitions.{definitions}

pub worked-examples : map (λ (x : Edge). x.is) examples ≡ map (λ (x : Edge). x.says) examples
unfolding definitions rows
worked-examples = refl
