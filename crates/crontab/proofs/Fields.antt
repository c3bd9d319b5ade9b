-- A test that holds of each field holds of each number below 5. Assumes nothing.
use mathlib.Core.Path.{◌≡◌}
use mathlib.Core.Bool.{Bool}
use mathlib.Core.List.{List, [], ◌∷◌}
use Prim.Native.Nat.{ℕ}
use Rattle.model.specs.Lists.{all, every}
use Rattle.model.proofs.TestLaws.{regrouped}
use Rattle.crontab.specs.declared.parts.Field.{Field}
use Rattle.crontab.specs.declared.parts.Field.TheVariants.{Minute, Hour, Day, Month, Weekday}
use Rattle.crontab.specs.Fields.{number}

abbrev pub fields : List Field
fields = Minute ∷ Hour ∷ Day ∷ Month ∷ Weekday ∷ []

pub all-fields : (f : ℕ → Bool) → all (λ x. f (number x)) fields ≡ every 5 f
unfolding every
all-fields f = regrouped (f 0) (f 1) (f 2) (f 3) (f 4)
