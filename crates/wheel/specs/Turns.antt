-- A rule's turn in a wall window, where a sun was missed before it or not, and after it or not.
use Rattle.std.specs.Prelude.{ℕ, ◌≡◌, Bool, List}
use Rattle.model.specs.State.{Env}
use Rattle.state.specs.Meaning.{meaning}
use Rattle.activate.specs.Carried.{Carried}
use Rattle.wheel.specs.Tick.{Fires, turn_handled, turn_missed}

pub record Turns (e : Env) (base window i : ℕ) (before after : Bool) (x : Carried) (ow ew : List ℕ) (r : Carried) (ow' ew' : List ℕ) : Type 0 where
  pub fires : Fires 1 (turn_handled e base window i) x ow ew r ow' ew'
  pub missed : after ≡ turn_missed e base window i before (meaning x.vol)
