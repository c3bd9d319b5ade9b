-- Clocks that were set back: what the definitions give is what the table says, row by row.
use mathlib.Core.Path.{◌≡◌, refl}
use mathlib.Core.List.{map}
use Rattle.edges.specs.Samples.{Edge}
use Rattle.edges.specs.SetBack.{table, rows}
use Rattle.edges.proofs.Definitions.{definitions}

pub clocks-set-back : map (λ (x : Edge). x.is) table ≡ map (λ (x : Edge). x.says) table
unfolding definitions rows
clocks-set-back = refl
