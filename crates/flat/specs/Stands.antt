-- A step that stands at a point of a rule, where there is one.
use Rattle.std.specs.Prelude.{◌≡◌, Option, None, Some}
use Rattle.std.specs.Option.{option_map}
use Rattle.model.specs.declared.Point.{Point}
use Rattle.model.specs.declared.Step.{Step}
use Rattle.flat.specs.declared.Placed.{Placed}

abbrev pub step_of_placed : Option Placed → Option Step
step_of_placed = option_map (λ (x : Placed). x.step)

-- it stands at this point
abbrev pub StandsAt : Point → Option Placed → Type 0
StandsAt p None = Unit {0}
StandsAt p (Some x) = x.point ≡ p
