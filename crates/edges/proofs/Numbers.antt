-- The numbers of activations: what the definitions give is what the table says, row by row.
use mathlib.Core.Path.{◌≡◌, refl}
use mathlib.Core.List.{map}
use Rattle.edges.specs.Samples.{Edge}
use Rattle.edges.specs.Numbers.{table, rows}
use Rattle.edges.proofs.Definitions.{definitions}

pub numbers-shown : map (λ (x : Edge). x.is) table ≡ map (λ (x : Edge). x.says) table
unfolding definitions rows
numbers-shown = refl
