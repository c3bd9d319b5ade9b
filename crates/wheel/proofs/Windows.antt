-- The minutes of the week, and rules with wall triggers. Assumes nothing.
use mathlib.Core.Path.{◌≡◌}
use mathlib.Core.Bool.{Bool, true, false}
use mathlib.Core.List.{List}
use Prim.Native.Nat.{ℕ, ◌+◌, ◌*◌}
use Rattle.model.specs.Arith.{has_day}
use Rattle.model.specs.Lists.{any}
use Rattle.model.specs.Rules.{rule_indices, triggers_of}
use Rattle.model.specs.State.{Rest, is_enabled}
use Rattle.model.specs.Wheel.{in_window, weekdays, minute_due, is_wall_trigger, has_wall_triggers}
use Rattle.wheel.specs.Wall.{day_due, enabled_wall}

module _ (base window days minute d : ℕ) {has : Bool} (is : has ≡ has_day days d) where
  pub on-day : {r : Bool} → has ≡ true → r ≡ in_window base window (d * 1440 + minute) → r ≡ day_due base window days minute d
  unfolding day_due
  on-day h e = rw (← is, h) e

  pub other-day : has ≡ false → has ≡ day_due base window days minute d
  unfolding day_due
  other-day h = rw (← is, h)

pub of-days : (base window days minute : ℕ) {r : Bool} → r ≡ any (day_due base window days minute) weekdays → r ≡ minute_due base window days minute
unfolding minute_due day_due
of-days base window days minute e = e

pub of-rules : (img : List ℕ) (s : Rest) {r : Bool} → r ≡ any (enabled_wall img s) (rule_indices img) → r ≡ has_wall_triggers img s
unfolding has_wall_triggers enabled_wall
of-rules img s e = e

module _ (img : List ℕ) (s : Rest) (i : ℕ) {on : Bool} (is : on ≡ is_enabled s i) where
  pub on-rule : {r : Bool} → on ≡ true → r ≡ any is_wall_trigger (triggers_of img i) → r ≡ enabled_wall img s i
  unfolding enabled_wall
  on-rule h e = rw (← is, h) e

  pub off-rule : on ≡ false → on ≡ enabled_wall img s i
  unfolding enabled_wall
  off-rule h = rw (← is, h)
