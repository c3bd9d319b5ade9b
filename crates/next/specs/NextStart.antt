-- What starts next by the wall clock: document 02, request 7. Over triggers and minutes of the week.
use Rattle.std.specs.Prelude.{ℕ, zero, suc, ◌+◌, ◌*◌, ◌%◌, min, Bool, true, false, ◌&&◌, List, [], ◌∷◌, map, eqb, leb, get_or}
use Rattle.std.specs.Prelude.{Option, None, Some}
use Rattle.model.specs.Arith.{has_day}
use Rattle.model.specs.Eval.{solar_of}
use Rattle.model.specs.Lists.{any, keep}
use Rattle.model.specs.Rules.{name_of, triggers_of, rule_indices}
use Rattle.model.specs.State.{RuleSet, Store}
use Rattle.model.specs.Wheel.{week_minutes, weekdays, week_minute}
use Rattle.model.specs.World.{World}
use Rattle.model.specs.declared.SunTimes.{SunTimes}
use Rattle.model.specs.declared.Trigger.{Trigger}
use Rattle.model.specs.declared.Trigger.TheVariants.{TimerFires, Every, AtTime, AtSolar, Other}
pub use Rattle.next.specs.declared.FirstStart.{FirstStart}
pub use Rattle.next.specs.declared.NextStart.{NextStart}
pub use Rattle.next.specs.declared.NextStart.TheVariants.{NoStart, ClockUnknown, Start}

-- minute w of the week is this minute of one of these days
unfoldable pub on_days : ℕ → ℕ → ℕ → Bool
on_days w days minute = any (λ d. has_day days d && eqb ((d * 1440 + minute) % week_minutes) w) weekdays

-- a trigger stands at minute w of the week. "Sun minutes are taken as unchanged over the week, and an AtSolar trigger without a sun has no start."
unfoldable pub stands_at : Option SunTimes → ℕ → Trigger → Bool
stands_at sun w (TimerFires t) = false
stands_at sun w (Every ms) = false
stands_at sun w (AtTime h m days) = on_days w days (h * 60 + m)
stands_at None w (AtSolar event offset) = false
stands_at (Some s) w (AtSolar event offset) = on_days w 127 (solar_of s event offset)
stands_at sun w Other = false

-- a trigger is due in m minutes from minute t of the week
unfoldable pub due_in : Option SunTimes → ℕ → Trigger → ℕ → Bool
due_in sun t x m = stands_at sun ((t + m) % week_minutes) x

-- rule i is enabled, as its bit in the store says, and a trigger of it is due in m minutes
unfoldable pub starts_in : List ℕ → List Bool → Option SunTimes → ℕ → ℕ → ℕ → Bool
starts_in img enabled sun t i m = get_or enabled i false && any (λ x. due_in sun t x m) (triggers_of img i)

-- the first of n numbers from m on that passes, or m + n
unfoldable pub first_from : (ℕ → Bool) → ℕ → ℕ → ℕ
first_from p m zero = m
first_from p m (suc n) = elim (p m) [ true ↦ m | false ↦ first_from p (suc m) n ]

-- the lowest of some names
unfoldable pub lowest : List ℕ → ℕ
lowest [] = 0
lowest (x ∷ []) = x
lowest (x ∷ (y ∷ ys)) = min x (lowest (y ∷ ys))

-- "the fewest minutes ahead, 1 to 10,080", at which a rule starts, or 10,081
unfoldable pub minutes_ahead : List ℕ → List Bool → Option SunTimes → ℕ → ℕ
minutes_ahead img enabled sun t = first_from (λ m. any (λ i. starts_in img enabled sun t i m) (rule_indices img)) 1 week_minutes

-- "the lowest rule name due then"
unfoldable pub name_ahead : List ℕ → List Bool → Option SunTimes → ℕ → ℕ → ℕ
name_ahead img enabled sun t m = lowest (map (name_of img) (keep (λ i. starts_in img enabled sun t i m) (rule_indices img)))

abbrev pub start_or_none : Bool → ℕ → ℕ → Option FirstStart
start_or_none true m r = Some (record { minutes = m; name = r })
start_or_none false m r = None

-- of a set's image and the bits of its rules, from minute t of the week
unfoldable pub next_from : List ℕ → List Bool → Option SunTimes → ℕ → Option FirstStart
next_from img enabled sun t =
    let m = minutes_ahead img enabled sun t in
    start_or_none (leb m week_minutes) m (name_ahead img enabled sun t m)

-- a store without a set has no start
unfoldable pub next_of_set : Option RuleSet → List Bool → Option SunTimes → ℕ → Option FirstStart
next_of_set None enabled sun t = None
next_of_set (Some set) enabled sun t = next_from set.image enabled sun t

-- what is said where the clock is known
abbrev pub clock_known : Option FirstStart → NextStart
clock_known None = NoStart
clock_known (Some x) = Start x

-- "A snapshot without a wall clock says "clock unknown", and a store without a set says "none" if the clock is known."
unfoldable pub next_start : Store → World → NextStart
next_start s w =
    elim w.wall [
      | None ↦ ClockUnknown
      | Some clock ↦ clock_known (next_of_set s.loaded s.vol.rest.enabled w.sun (week_minute clock))
    ]

-- the values of the answer: a mark, the minutes and the rule's name, which are 0 where there is no start
unfoldable pub start_values : NextStart → List ℕ
start_values NoStart = 0 ∷ 0 ∷ 0 ∷ []
start_values (Start x) = 1 ∷ x.minutes ∷ x.name ∷ []
start_values ClockUnknown = 2 ∷ 0 ∷ 0 ∷ []
