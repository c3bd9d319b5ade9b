-- Which wall trigger of a rule is due.
use Rattle.std.specs.Prelude.{ℕ, ◌+◌, ◌*◌, ◌≡◌, Bool, true, false, ◌&&◌, ◌||◌, List}
use Rattle.std.specs.Prelude.{Option, None, Some, Result, Ok, Err}
use Rattle.model.specs.Arith.{has_day}
use Rattle.model.specs.Kinds.{trigger_number}
use Rattle.model.specs.Lists.{any}
use Rattle.model.specs.Rules.{triggers_of}
use Rattle.model.specs.State.{Rest, is_enabled}
use Rattle.model.specs.Steps.{FlatStep}
use Rattle.model.specs.Wheel as model
use Rattle.model.specs.Wheel.{in_window, is_wall_trigger, due_wall_kind}
use Rattle.model.specs.declared.Trigger.{Trigger}
use Rattle.model.specs.declared.TriggerKind.{TriggerKind}
use Rattle.eval.specs.Answers.{env_of}
use Rattle.wheel.specs.declared.wall.NoSun.{NoSun}

-- a minute of one of these days
unfoldable pub day_due : ℕ → ℕ → ℕ → ℕ → ℕ → Bool
day_due base window days minute d = has_day days d && in_window base window (d * 1440 + minute)

-- the number of a kind, where there is one
abbrev pub number_if : Option TriggerKind → Option ℕ
number_if None = None
number_if (Some kind) = Some (trigger_number kind)

-- the kind of the first due trigger, and whether a sun was missed
abbrev pub kind_and_sun : Option TriggerKind → Bool → model.WallKind
kind_and_sun kind unsynced = record { kind = number_if kind; unsynced = unsynced }

-- what one trigger answers
abbrev pub kind_of_one : Result (Option TriggerKind) NoSun → model.WallKind
kind_of_one (Ok kind) = kind_and_sun kind false
kind_of_one (Err e) = kind_and_sun None true

-- a sun was missed before, or is now
abbrev pub missed_too : Bool → model.WallKind → model.WallKind
missed_too missed w = record w { unsynced = missed || w.unsynced }

-- what these triggers give, in every environment of a snapshot
abbrev pub Kind : List ℕ → ℕ → ℕ → Bool → List Trigger → model.WallKind → Type 0
Kind snapshot base window missed ts r =
    (image : List ℕ) (flat : List (List FlatStep)) → r ≡ missed_too missed (due_wall_kind (env_of snapshot image flat) base window ts)

-- rule i is enabled and has a wall trigger
unfoldable pub enabled_wall : List ℕ → Rest → ℕ → Bool
enabled_wall img s i = is_enabled s i && any is_wall_trigger (triggers_of img i)
