-- Repeats round Afters: what the definitions give is what the tables say, row by row.
use mathlib.Core.Path.{◌≡◌, refl}
use mathlib.Core.List.{map}
use Rattle.edges.specs.Samples.{Edge}
use Rattle.edges.specs.Sharing.{counted, running, rows}
use Rattle.edges.proofs.Definitions.{definitions}

pub shared-counts : map (λ (x : Edge). x.is) counted ≡ map (λ (x : Edge). x.says) counted
unfolding definitions rows
shared-counts = refl

pub shared-runs : map (λ (x : Edge). x.is) running ≡ map (λ (x : Edge). x.says) running
unfolding definitions rows
shared-runs = refl
