-- The next deadline.
use Rattle.std.specs.Prelude.{ℕ, ◌≡◌, List}
use Rattle.std.specs.Prelude.{Option, None, Some}
use Rattle.model.specs.State.{RuleSet, Store}
use Rattle.model.specs.Steps.{FlatStep}
use Rattle.model.specs.Wheel.{least, wall_poll}
use Rattle.state.specs.Meaning.{meaning}

-- a store of these parts; a set is loaded where there is an image
abbrev pub set_if : Option (List ℕ) → List (List FlatStep) → Option RuleSet
set_if None flat = None
set_if (Some image) flat = Some (record { image = image; flat = flat })

abbrev pub store_of : Option (List ℕ) → List (List FlatStep) → List ℕ → ℕ → Store
store_of image flat v last = record { now = last; loaded = set_if image flat; vol = meaning v }

abbrev pub Poll : Option (List ℕ) → List ℕ → ℕ → Option ℕ → Type 0
Poll image v last r =
    (flat : List (List FlatStep)) → let s = store_of image flat v last in r ≡ least (wall_poll s s.loaded)
