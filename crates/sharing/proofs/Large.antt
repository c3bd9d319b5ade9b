-- Request 8's large sets: what the definitions give is what the table says, row by row.
use mathlib.Core.Path.{◌≡◌, refl}
use mathlib.Core.List.{map}
use Rattle.edges.specs.Samples.{Edge}
use Rattle.edges.proofs.Definitions.{definitions}
use Rattle.sharing.specs.Large.{counted, loading, rows}

pub large-counts : map (λ (x : Edge). x.is) counted ≡ map (λ (x : Edge). x.says) counted
unfolding definitions rows
large-counts = refl

pub large-loads : map (λ (x : Edge). x.is) loading ≡ map (λ (x : Edge). x.says) loading
unfolding definitions rows
large-loads = refl
