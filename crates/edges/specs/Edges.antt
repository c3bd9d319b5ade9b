-- Document 01's starred edges, as one table.
use Rattle.std.specs.Prelude.{ℕ, ◌+◌, ◌-◌, ◌^◌, false, List, [], ◌∷◌, map, length}
use Rattle.words.specs.Solar.{solar_time, solar_words}
use Rattle.model.specs.declared.Step.{Step}
use Rattle.model.specs.declared.Step.TheVariants.{Primitive, Wait, Branch, After, Fail}
use Rattle.model.specs.Steps.{steps_of}
use Rattle.model.specs.Flat.{flatten_rule}
use Rattle.model.specs.Calls.{Call, run}
use Rattle.edges.specs.Samples.{image_of, rule, log, logs, after, doing, snapshot, absent, tick_at, tick_at_minute, run_wet, force, history, Edge, edge, samples}

-- of a flat list: how many steps, how many of them are Fail, and whether the last one is
unfoldable pub is_fail : Step → ℕ
is_fail (Primitive i) = 0
is_fail (Wait ms) = 0
is_fail (Branch c t e) = 0
is_fail (After ms) = 0
is_fail Fail = 1

unfoldable pub sum : List ℕ → ℕ
sum [] = 0
sum (n ∷ ns) = n + sum ns

unfoldable pub last : List ℕ → ℕ
last [] = 0
last (n ∷ []) = n
last (n ∷ m ∷ ns) = last (m ∷ ns)

unfoldable pub steps : List ℕ → List (List (List ℕ))
steps image =
    force image (λ img. let fs = map is_fail (steps_of (flatten_rule img 0).steps) in ((length fs ∷ sum fs ∷ last fs ∷ []) ∷ []) ∷ [])

-- a negative number as a 32-bit word
unfoldable pub minus : ℕ → ℕ
minus n = 2 ^ 32 - n

-- minute and remainder at an offset from minute 10
unfoldable pub from_ten : ℕ → List (List (List ℕ))
from_ten offset = (solar_words (solar_time 10 offset) ∷ []) ∷ []

unfoldable pub time : ℕ → ℕ → List (List (List ℕ))
time minute remainder = ((minute ∷ remainder ∷ []) ∷ []) ∷ []

unfoldable pub repeat128 : ℕ → List ℕ
repeat128 times = doing 8 1 ((26 ∷ times ∷ 1 ∷ 128 ∷ []) ∷ logs 128)

-- After of two Logs, After of one Log, Log
unfoldable pub afters : List ℕ
afters = doing 3 3 (after 10 3 2 ∷ after 10 5 1 ∷ log 1 ∷ log 2 ∷ log 3 ∷ log 4 ∷ [])

-- Every millisecond, cooldown 1000
unfoldable pub cooled : List ℕ
cooled = image_of 8 (rule 5 1000 0 1 0 0 0 1 ∷ []) ((1 ∷ 1 ∷ []) ∷ []) [] (logs 1) []

-- rule 6 runs if rule 5 fired longer ago than 1000
unfoldable pub older : List ℕ
older = image_of 8 (rule 5 0 0 0 0 0 0 1 ∷ rule 6 0 0 0 0 1 0 1 ∷ []) [] ((12 ∷ 5 ∷ 1000 ∷ []) ∷ []) (logs 1) []

-- rules 1 to 4 at 4:00, 4:01, 5:00, 5:01 and rule 5 at 0:00, on every day
unfoldable pub clock : List ℕ
clock =
    image_of 8 (rule 1 0 0 1 0 0 0 1 ∷ rule 2 0 1 1 0 0 0 1 ∷ rule 3 0 2 1 0 0 0 1 ∷ rule 4 0 3 1 0 0 0 1 ∷ rule 5 0 4 1 0 0 0 1 ∷ [])
    ((2 ∷ 4 ∷ 0 ∷ 127 ∷ []) ∷ (2 ∷ 4 ∷ 1 ∷ 127 ∷ []) ∷ (2 ∷ 5 ∷ 0 ∷ 127 ∷ []) ∷ (2 ∷ 5 ∷ 1 ∷ 127 ∷ []) ∷ (2 ∷ 0 ∷ 0 ∷ 127 ∷ []) ∷ [])
    [] (logs 1) []

-- rules 1 to 4 at 3:39, 3:40, 4:39 and 4:40, on every day
unfoldable pub back : List ℕ
back =
    image_of 8 (rule 1 0 0 1 0 0 0 1 ∷ rule 2 0 1 1 0 0 0 1 ∷ rule 3 0 2 1 0 0 0 1 ∷ rule 4 0 3 1 0 0 0 1 ∷ [])
    ((2 ∷ 3 ∷ 39 ∷ 127 ∷ []) ∷ (2 ∷ 3 ∷ 40 ∷ 127 ∷ []) ∷ (2 ∷ 4 ∷ 39 ∷ 127 ∷ []) ∷ (2 ∷ 4 ∷ 40 ∷ 127 ∷ []) ∷ [])
    [] (logs 1) []

-- rule 5 runs from 22:00 to 6:00
unfoldable pub night : List ℕ
night = image_of 8 (rule 5 0 0 0 0 1 0 1 ∷ []) [] ((0 ∷ 0 ∷ 1 ∷ []) ∷ []) (logs 1) ((0 ∷ 22 ∷ 0 ∷ []) ∷ (0 ∷ 6 ∷ 0 ∷ []) ∷ [])

unfoldable pub run_at_minute : ℕ → Call
run_at_minute minute = run 5 false (snapshot 0 (1 ∷ 0 ∷ minute ∷ []) absent) 72 45

-- rule 5 runs in the minute at an offset from sunrise; the sun rises at minute 10 and sets at 1,000
unfoldable pub at_sunrise : ℕ → List ℕ
at_sunrise offset = image_of 8 (rule 5 0 0 0 0 1 0 1 ∷ []) [] ((0 ∷ 0 ∷ 0 ∷ []) ∷ []) (logs 1) ((1 ∷ 0 ∷ offset ∷ []) ∷ [])

unfoldable pub sunrise : List ℕ
sunrise = at_sunrise (minus 90000)

unfoldable pub sunrise_earlier : List ℕ
sunrise_earlier = at_sunrise (minus 900000)

unfoldable pub run_in_sun : ℕ → Call
run_in_sun minute = run 5 false (snapshot 0 (1 ∷ 0 ∷ minute ∷ []) (1 ∷ 10 ∷ 1000 ∷ [])) 72 45

unfoldable pub table : List Edge
table =
    -- 256 Logs: 256 steps; 300: 257, the last Fail
    edge (steps (doing 8 256 (logs 256))) (((256 ∷ 0 ∷ 0 ∷ []) ∷ []) ∷ []) ∷
    edge (steps (doing 8 300 (logs 300))) (((257 ∷ 1 ∷ 1 ∷ []) ∷ []) ∷ []) ∷
    -- Repeat 2 of 128 Logs: 256; Repeat 3: 257
    edge (steps (repeat128 2)) (((256 ∷ 0 ∷ 0 ∷ []) ∷ []) ∷ []) ∷
    edge (steps (repeat128 3)) (((257 ∷ 1 ∷ 1 ∷ []) ∷ []) ∷ []) ∷
    -- B 4: four Logs, reason 0; five: four effects, reason 2
    edge (history (doing 4 4 (logs 4)) (run_wet 5 0 ∷ [])) ([] ∷ ((5 ∷ 0 ∷ 7 ∷ 7 ∷ 7 ∷ 7 ∷ []) ∷ []) ∷ []) ∷
    edge (history (doing 4 5 (logs 5)) (run_wet 5 0 ∷ [])) ([] ∷ ((5 ∷ 2 ∷ 7 ∷ 7 ∷ 7 ∷ 7 ∷ []) ∷ []) ∷ []) ∷
    -- B 3: After of two Logs, After of one Log, Log: four effects in all
    edge (history afters (run_wet 5 0 ∷ tick_at 9 ∷ tick_at 10 ∷ tick_at 20 ∷ []))
    ([] ∷ ((5 ∷ 0 ∷ 1 ∷ []) ∷ []) ∷ [] ∷ ((5 ∷ 0 ∷ 2 ∷ 3 ∷ []) ∷ (5 ∷ 0 ∷ 4 ∷ []) ∷ []) ∷ [] ∷ []) ∷
    -- cooldown 1000 after 5000: 5999 suppressed, 6000 runs
    edge (history cooled (tick_at 5000 ∷ tick_at 5999 ∷ tick_at 6000 ∷ []))
    ([] ∷ ((5 ∷ 0 ∷ 7 ∷ []) ∷ []) ∷ [] ∷ ((5 ∷ 0 ∷ 7 ∷ []) ∷ []) ∷ []) ∷
    -- older than 1000: no at 6000, yes at 6001
    edge (history older (run_wet 5 5000 ∷ run_wet 6 6000 ∷ run_wet 6 6001 ∷ []))
    ([] ∷ ((5 ∷ 0 ∷ 7 ∷ []) ∷ []) ∷ [] ∷ ((6 ∷ 0 ∷ 7 ∷ []) ∷ []) ∷ []) ∷
    -- week minute 10,079 then 0: minute 0 is due
    edge (history clock (tick_at_minute 1 6 1439 ∷ tick_at_minute 2 0 0 ∷ [])) ([] ∷ [] ∷ ((5 ∷ 0 ∷ 7 ∷ []) ∷ []) ∷ []) ∷
    -- 100 then 300: 241 to 300
    edge (history clock (tick_at_minute 1 0 100 ∷ tick_at_minute 2 0 300 ∷ []))
    ([] ∷ [] ∷ ((2 ∷ 0 ∷ 7 ∷ []) ∷ (3 ∷ 0 ∷ 7 ∷ []) ∷ []) ∷ []) ∷
    -- "the same rule covers a clock set back", by more than the 120 minutes of request 5: 400 then 279 is the last hour before 279, 220 to 279
    edge (history back (tick_at_minute 1 0 400 ∷ tick_at_minute 2 0 279 ∷ []))
    ([] ∷ [] ∷ ((2 ∷ 0 ∷ 7 ∷ []) ∷ (3 ∷ 0 ∷ 7 ∷ []) ∷ []) ∷ []) ∷
    -- sunrise 10, offset -90,000: minute 9, and -30,000 is left; -900,000: 1,435, and nothing is
    edge (from_ten (minus 90000)) (time 9 (minus 30000)) ∷
    edge (from_ten (minus 900000)) (time 1435 0) ∷
    -- document 02, request 4: less than a minute either way, a minute, and both ends of the range
    edge (from_ten (minus 30000)) (time 10 (minus 30000)) ∷
    edge (from_ten (minus 59999)) (time 10 (minus 59999)) ∷
    edge (from_ten 59999) (time 10 59999) ∷
    edge (from_ten (minus 60000)) (time 9 0) ∷
    edge (from_ten 60000) (time 11 0) ∷
    edge (from_ten (2 ^ 31)) (time 219 (minus 23648)) ∷
    edge (from_ten (2 ^ 31 - 1)) (time 1241 23647) ∷
    edge (history sunrise (run_in_sun 8 ∷ run_in_sun 9 ∷ run_in_sun 1435 ∷ [])) ([] ∷ [] ∷ ((5 ∷ 0 ∷ 7 ∷ []) ∷ []) ∷ [] ∷ []) ∷
    edge (history sunrise_earlier (run_in_sun 9 ∷ run_in_sun 1435 ∷ [])) ([] ∷ [] ∷ ((5 ∷ 0 ∷ 7 ∷ []) ∷ []) ∷ []) ∷
    -- range 1320 to 360: 360 in, 361 out
    edge (history night (run_at_minute 360 ∷ run_at_minute 361 ∷ [])) ([] ∷ ((5 ∷ 0 ∷ 7 ∷ []) ∷ []) ∷ [] ∷ []) ∷
    []

-- one name that opens them all
unfoldable pub rows : ℕ
unfolding samples is_fail sum last steps minus from_ten time repeat128 afters cooled older clock back night run_at_minute at_sunrise sunrise sunrise_earlier run_in_sun table
rows = 0
