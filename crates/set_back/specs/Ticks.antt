-- A tick by its parts: what it does before its wall part, whether its clock was set back, and document 01's wall part.
use Rattle.std.specs.Prelude.{ℕ, ◌+◌, ◌-◌, ◌%◌, Bool, false}
use Rattle.std.specs.Prelude.{Option, None, Some}
use Rattle.model.specs.declared.WallTime.{WallTime}
use Rattle.model.specs.State.{Env, Volatile, with_rest, with_prev_week_min}
use Rattle.model.specs.Activate.{Handled, no_outcome, and_then}
use Rattle.model.specs.Wheel.{fire_continuations, fire_timers, fire_every, week_minutes, week_minute, make_up, is_set_back, without_clock}

-- continuations, timers and Every alone
unfoldable pub before_wall : Env → Volatile → Handled
before_wall e v = and_then (and_then (fire_continuations e v) (fire_timers e)) (fire_every e)

-- the clock of a tick, and the minute that the store remembers: the first lies 1 to 120 minutes behind the second
abbrev pub set_back_at : Option WallTime → Option ℕ → Bool
set_back_at None prev = false
set_back_at (Some w) None = false
set_back_at (Some w) (Some prev) = is_set_back prev (week_minute w)

abbrev pub set_back : Env → Volatile → Bool
set_back e v = set_back_at e.world.wall v.rest.prev_week_min

-- the minute of a clock is remembered, and nothing else changes
abbrev pub remembering : Option WallTime → Volatile → Volatile
remembering None v = v
remembering (Some w) v = with_rest (with_prev_week_min (Some (week_minute w)) v.rest) v

-- the wall part of document 01, for every jump of the clock
abbrev pub former_wall_at : Option WallTime → Option ℕ → Env → Volatile → Handled
former_wall_at None prev e v = no_outcome (with_rest (without_clock e v.rest) v)
former_wall_at (Some w) None e v = no_outcome (remembering (Some w) v)
former_wall_at (Some w) (Some prev) e v = make_up e (week_minute w) prev (remembering (Some w) v)

unfoldable pub former_wall : Env → Volatile → Handled
former_wall e v = former_wall_at e.world.wall v.rest.prev_week_min e v

-- the minute that a clock shows when it is set back by so many minutes
unfoldable pub back_by : ℕ → ℕ → ℕ
back_by minutes prev = (prev + week_minutes - minutes) % week_minutes
