-- A test that holds of each table holds of each number below 5. Assumes nothing.
use mathlib.Core.Path.{◌≡◌}
use mathlib.Core.Bool.{Bool}
use mathlib.Core.List.{List, [], ◌∷◌}
use Prim.Native.Nat.{ℕ}
use Rattle.model.proofs.TestLaws.{regrouped}
use Rattle.model.specs.Lists.{all, every}
use Rattle.world.specs.declared.table.Table.{Table}
use Rattle.world.specs.declared.table.Table.TheVariants.{Lamps, Groups, Devices, Inputs, HclTargets}
use Rattle.world.specs.Tables.{number}

abbrev pub tables : List Table
tables = Lamps ∷ Groups ∷ Devices ∷ Inputs ∷ HclTargets ∷ []

pub all-tables : (f : ℕ → Bool) → all (λ t. f (number t)) tables ≡ every 5 f
unfolding every
all-tables f = regrouped (f 0) (f 1) (f 2) (f 3) (f 4)
