-- The method: how many minutes on a start is, where it is one within a week, and the least of them.
use Rattle.std.specs.Prelude.{ℕ, ◌+◌, ◌*◌, ◌%◌, min, Bool, cond, ◌&&◌, List, eqb, leb, ltb}
use Rattle.std.specs.Prelude.{Option, None, Some}
use Rattle.std.specs.List.{reduce, filter_map}
use Rattle.std.specs.Option.{option_map}
use Rattle.model.specs.Arith.{has_day}
use Rattle.model.specs.Rules.{name_of, rule_indices}
use Rattle.model.specs.declared.SunTimes.{SunTimes}
use Rattle.next.specs.NextStart.{first_from, starts_in}
use Rattle.next.specs.declared.FirstStart.{FirstStart}

-- so many minutes, if they are minutes of a week
unfoldable pub within : ℕ → Option ℕ
within m = cond (leb m 10080) (Some m) None

-- a minute of one day, where it is in the set, is m minutes on
abbrev pub day_ahead : ℕ → ℕ → ℕ → ℕ → ℕ → Bool
day_ahead t days minute d m = has_day days d && eqb ((d * 1440 + minute) % 10080) ((t + m) % 10080)

-- the earlier of two starts, and of two in one minute the one of the lower name
unfoldable pub earlier : FirstStart → FirstStart → FirstStart
earlier a b =
    cond (ltb a.minutes b.minutes) a
    (cond (ltb b.minutes a.minutes) b (record { minutes = a.minutes; name = min a.name b.name }))

-- the first start of rule i, with its name
abbrev pub start_of : List ℕ → List Bool → Option SunTimes → ℕ → ℕ → Option FirstStart
start_of img enabled sun t i = option_map (λ m. record { minutes = m; name = name_of img i }) (within (first_from (starts_in img enabled sun t i) 1 10080))

unfoldable pub best_of : List ℕ → List Bool → Option SunTimes → ℕ → Option FirstStart
best_of img enabled sun t = reduce earlier (filter_map (start_of img enabled sun t) (rule_indices img))
