-- The lines of request 7, as theorems about the definitions. Assumes nothing.
use mathlib.Core.Path.{◌≡◌, refl}
use mathlib.Core.Bool.{Bool, true, false}
use mathlib.Core.List.{List, [], ◌∷◌, ◌++◌}
use Rattle.std.specs.Prelude.{Option, None, Some}
use Prim.Native.Nat.{ℕ}
use Rattle.words.specs.Solar.{solar_time}
use Rattle.model.specs.Arith.{has_day}
use Rattle.model.specs.Eval.{solar_of, solar_time_of}
use Rattle.model.specs.Image.{trailer, first_of, width_of, size_of, word_at}
use Rattle.model.specs.Rules.{trigger_of, triggers_of}
use Rattle.model.specs.declared.SunTimes.{SunTimes}
use Rattle.model.specs.declared.SolarEvent.TheVariants.{Sunrise}
use Rattle.model.specs.declared.Trigger.{Trigger}
use Rattle.model.specs.declared.Trigger.TheVariants.{TimerFires, Every, AtTime, AtSolar, Other}
use Rattle.next.specs.NextStart.{FirstStart, first_from, on_days, stands_at, due_in, starts_in, lowest, minutes_ahead, name_ahead, next_from}

abbrev minutes : Option SunTimes → ℕ → Trigger → ℕ
minutes sun t x = first_from (λ m. due_in sun t x m) 1 10080

-- the present minute is not ahead
present-minute : (minutes None 360 (AtTime 6 0 1) ≡ 10080) × (minutes None 360 (AtTime 6 0 127) ≡ 1440) × (minutes None 359 (AtTime 6 0 1) ≡ 1) × (minutes None 10079 (AtTime 0 0 1) ≡ 1)
unfolding first_from due_in stands_at on_days has_day
present-minute = (refl, refl, refl, refl)

-- 10,081 is never: no day, no sun, periods and timers
no-minute : (minutes None 360 (AtTime 6 0 0) ≡ 10081) × (minutes None 0 (AtSolar Sunrise 0) ≡ 10081) × (minutes None 0 (Every 1000) ≡ 10081) × (minutes None 0 (TimerFires 1) ≡ 10081) × (minutes None 0 Other ≡ 10081)
unfolding first_from due_in stands_at on_days has_day
no-minute = (refl, refl, refl, refl, refl)

-- the sun's own minute, on every day
of-sun : minutes (Some (record { sunrise_min = 300; sunset_min = 1200 })) 301 (AtSolar Sunrise 0) ≡ 1439
unfolding first_from due_in stands_at on_days has_day solar_of solar_time_of solar_time
of-sun = refl

-- two rules of one trigger each: their names, their enabled words, and the minutes of the two triggers, at 06 on every day
house : ℕ → ℕ → ℕ → ℕ → ℕ → ℕ → List ℕ
house a on-a at_a b on-b at_b =
    (a ∷ on-a ∷ 0 ∷ 0 ∷ 0 ∷ 1 ∷ 0 ∷ 0 ∷ 0 ∷ 0 ∷ 0 ∷ 0 ∷ 0 ∷ 0 ∷ 0 ∷ 0 ∷ [])
    ++ (b ∷ on-b ∷ 0 ∷ 0 ∷ 1 ∷ 1 ∷ 0 ∷ 0 ∷ 0 ∷ 0 ∷ 0 ∷ 0 ∷ 0 ∷ 0 ∷ 0 ∷ 0 ∷ [])
    ++ (2 ∷ 6 ∷ at_a ∷ 127 ∷ 0 ∷ 0 ∷ 0 ∷ 0 ∷ [])
    ++ (2 ∷ 6 ∷ at_b ∷ 127 ∷ 0 ∷ 0 ∷ 0 ∷ 0 ∷ [])
    ++ (64 ∷ 4 ∷ 16 ∷ 64 ∷ 16 ∷ 0 ∷ 32 ∷ 32 ∷ 48 ∷ 48 ∷ 48 ∷ 48 ∷ 48 ∷ [])

abbrev next : List ℕ → List Bool → Option FirstStart
next img enabled = next_from img enabled None 300

abbrev start : ℕ → ℕ → Option FirstStart
start m r = Some (record { minutes = m; name = r })

-- the lowest name of one minute, not the first; the earlier one of two; the bit, not the image's word
answers :
    (next (house 9 1 0 4 1 0) (true ∷ true ∷ []) ≡ start 60 4)
    × (next (house 9 1 0 4 1 1) (true ∷ true ∷ []) ≡ start 60 9)
    × (next (house 9 1 0 4 1 0) (true ∷ false ∷ []) ≡ start 60 9)
    × (next (house 9 1 0 4 0 0) (false ∷ true ∷ []) ≡ start 60 4)
    × (next (house 9 1 0 4 1 0) (false ∷ false ∷ []) ≡ None)
unfolding house next_from minutes_ahead name_ahead first_from starts_in due_in stands_at on_days has_day lowest triggers_of trigger_of size_of word_at first_of width_of trailer
answers = (refl, refl, refl, refl, refl)
