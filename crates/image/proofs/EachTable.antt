-- A test of each table, in the order of their numbers. Assumes nothing.
use mathlib.Core.Path.{◌≡◌}
use mathlib.Core.Bool.{Bool, and-true, and_assoc}
use mathlib.Core.List.{List, [], ◌∷◌}
use Prim.Native.Nat.{ℕ}
use Rattle.std.specs.List.{list_all}
use Rattle.model.specs.Lists.{every}
use Rattle.image.specs.Tables.{number_of}
use Rattle.image.specs.declared.layout.Table.{Table}
use Rattle.image.specs.declared.layout.Table.TheVariants.{Rules, Blocks, Triggers, Conditions, Actions, Values, Bounds, Pool}

abbrev pub tables : List Table
tables = Rules ∷ Blocks ∷ Triggers ∷ Conditions ∷ Actions ∷ Values ∷ Bounds ∷ Pool ∷ []

pub each : (f : ℕ → Bool) → list_all (λ t. f (number_of t)) tables ≡ every 8 f
unfolding every
each f = simp (and_assoc, and-true)
