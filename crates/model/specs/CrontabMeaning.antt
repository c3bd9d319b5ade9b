-- What a line of a crontab means, apart from its triggers: whether it matches a minute of the week, field by field. And when a trigger
-- is due: by the wheel's own `minute_due`.
use Rattle.std.specs.Prelude.{ℕ, ◌+◌, ◌-◌, ◌*◌, ◌/◌, ◌%◌, Bool, true, false, ◌&&◌, ◌||◌, List, [], ◌∷◌, map, ltb, eqb}
use Rattle.model.specs.Lists.{up_from}
use Rattle.model.specs.Rules.{trigger_of, record_in, Trigger, TimerFires, Every, AtTime, AtSolar, Other}
use Rattle.model.specs.Wheel.{week_minutes, minute_due}
use Rattle.model.specs.Crontab.{field_covers}

-- what day it is there, where 0 is Sunday, on weekday d here
abbrev pub day_there : ℕ → ℕ → ℕ
day_there sunday d = (d + 7 - sunday) % 7

-- minute w of the week here is one of the line's; day of month and month are asterisks
unfoldable pub matches : List ℕ → ℕ → ℕ → Bool
matches line sunday w =
    field_covers line 0 (w % 60) && (field_covers line 1 (w % 1440 / 60) && field_covers line 4 (day_there sunday (w / 1440)))

-- TRIGGERS -----------------------------------------------------------------------------------------------------------------------------
-- the first n triggers of a table
abbrev pub triggers_in : List ℕ → ℕ → List Trigger
triggers_in table n = map (λ i. trigger_of (record_in table i)) (up_from 0 n)

abbrev pub minute_before : ℕ → ℕ
minute_before w = (w + week_minutes - 1) % week_minutes

-- due in the window of one minute that ends at w
abbrev pub due_at : ℕ → Trigger → Bool
due_at w (TimerFires t) = false
due_at w (Every ms) = false
due_at w (AtTime h m ds) = minute_due (minute_before w) 1 ds (h * 60 + m)
due_at w (AtSolar event offset) = false
due_at w Other = false

-- ORDER --------------------------------------------------------------------------------------------------------------------------------
abbrev pub hour_of : Trigger → ℕ
hour_of (TimerFires t) = 0
hour_of (Every ms) = 0
hour_of (AtTime h m ds) = h
hour_of (AtSolar event offset) = 0
hour_of Other = 0

abbrev pub minute_of : Trigger → ℕ
minute_of (TimerFires t) = 0
minute_of (Every ms) = 0
minute_of (AtTime h m ds) = m
minute_of (AtSolar event offset) = 0
minute_of Other = 0

abbrev pub on_days : ℕ → Trigger → Bool
on_days ds (TimerFires t) = false
on_days ds (Every ms) = false
on_days ds (AtTime h m days) = eqb days ds
on_days ds (AtSolar event offset) = false
on_days ds Other = false

-- "by hour, then minute, each pair once"
abbrev pub earlier : Trigger → Trigger → Bool
earlier a b = ltb (hour_of a) (hour_of b) || (eqb (hour_of a) (hour_of b) && ltb (minute_of a) (minute_of b))

abbrev pub in_order : List Trigger → Bool
in_order [] = true
in_order (a ∷ []) = true
in_order (a ∷ (b ∷ r)) = earlier a b && in_order (b ∷ r)
