-- The starred edges: what the definitions give is what document 01 says, row by row.
use mathlib.Core.Path.{◌≡◌, refl}
use mathlib.Core.List.{map}
use Rattle.edges.specs.Samples.{Edge}
use Rattle.edges.specs.Edges.{table, rows}
use Rattle.edges.proofs.Definitions.{definitions}

pub starred-edges : map (λ (x : Edge). x.is) table ≡ map (λ (x : Edge). x.says) table
unfolding definitions rows
starred-edges = refl
