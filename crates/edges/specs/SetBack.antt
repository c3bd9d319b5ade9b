-- Clocks that were set back: request 5 of document 02, as one table. A rule is named by the minute of the day at which it starts.
use Rattle.std.specs.Prelude.{ℕ, ◌/◌, ◌%◌, false, List, [], ◌∷◌, map, length, get_or}
use Rattle.model.specs.Lists.{up_from}
use Rattle.model.specs.Calls.{Call, load, unload, run, counters}
use Rattle.edges.specs.Samples.{image_of, rule, log, logs, wait, snapshot, absent, tick_at, tick_at_minute, run_wet, force, history, Edge, edge, samples}

-- a Log at each of these minutes of every day
unfoldable pub daily : List ℕ → List ℕ
daily minutes =
    image_of 8 (map (λ k. rule (get_or minutes k 0) 0 k 1 0 0 0 1) (up_from 0 (length minutes)))
    (map (λ minute. 2 ∷ minute / 60 ∷ minute % 60 ∷ 127 ∷ []) minutes) [] (logs 1) []

-- a tick at a minute of the week
unfoldable pub tick_in : ℕ → Call
tick_in minute = tick_at_minute 1 (minute / 1440) (minute % 1440)

-- ticks at these minutes of the week, with a rule for each minute of a list; what the ticks start
unfoldable pub ticks : List ℕ → List ℕ → List (List (List ℕ))
ticks rules minutes = history (daily rules) (map tick_in minutes)

unfoldable pub starting : List (List ℕ) → List (List (List ℕ))
starting ticks = [] ∷ map (λ rules. map (λ r. r ∷ 0 ∷ 7 ∷ []) rules) ticks

-- rule 5 at sunrise, where no sun is known; what of the counters is seen: a tick without the time that it was asked for
unfoldable pub solar : List ℕ
solar = image_of 8 (rule 5 0 0 1 0 0 0 1 ∷ []) ((3 ∷ 0 ∷ 0 ∷ []) ∷ []) [] (logs 1) []

unfoldable pub unsynced : ℕ → List (List ℕ)
unsynced n = (0 ∷ 0 ∷ 0 ∷ 0 ∷ 0 ∷ 0 ∷ 0 ∷ 0 ∷ 0 ∷ 0 ∷ 0 ∷ n ∷ 0 ∷ 0 ∷ 1 ∷ 0 ∷ []) ∷ []

-- rule 1 every millisecond; rule 2 when timer 9 fires; rule 3 at 4:59; rule 4 starts timer 9, waits and logs 2
unfoldable pub others : List ℕ
others =
    image_of 8 (rule 1 0 0 1 0 0 0 1 ∷ rule 2 0 1 1 0 0 0 1 ∷ rule 3 0 2 1 0 0 0 1 ∷ rule 4 0 0 0 0 0 1 3 ∷ [])
    ((1 ∷ 1 ∷ []) ∷ (0 ∷ 9 ∷ []) ∷ (2 ∷ 4 ∷ 59 ∷ 127 ∷ []) ∷ []) [] (log 7 ∷ (13 ∷ 9 ∷ 10 ∷ []) ∷ wait 10 ∷ log 2 ∷ []) []

unfoldable pub table : List Edge
table =
    -- no step: nothing, as before
    edge (ticks (299 ∷ 300 ∷ []) (300 ∷ 300 ∷ [])) (starting ([] ∷ [] ∷ [])) ∷
    -- 1 and 120 behind: nothing starts
    edge (ticks (298 ∷ 299 ∷ 300 ∷ []) (300 ∷ 299 ∷ [])) (starting ([] ∷ [] ∷ [])) ∷
    edge (ticks (121 ∷ 179 ∷ 180 ∷ []) (300 ∷ 180 ∷ [])) (starting ([] ∷ [] ∷ [])) ∷
    -- 121 behind: 120 to 179 are made up for
    edge (ticks (119 ∷ 120 ∷ 179 ∷ 180 ∷ []) (300 ∷ 179 ∷ [])) (starting ([] ∷ (120 ∷ 179 ∷ []) ∷ [])) ∷
    -- round the week: 60, 120 and 121 behind (minutes 1,410, 1,420 and 1,419 of the last day)
    edge (ticks (1409 ∷ 1410 ∷ []) (30 ∷ 10050 ∷ [])) (starting ([] ∷ [] ∷ [])) ∷
    edge (ticks (1419 ∷ 1420 ∷ []) (100 ∷ 10060 ∷ [])) (starting ([] ∷ [] ∷ [])) ∷
    edge (ticks (1359 ∷ 1360 ∷ 1419 ∷ 1420 ∷ []) (100 ∷ 10059 ∷ [])) (starting ([] ∷ (1360 ∷ 1419 ∷ []) ∷ [])) ∷
    -- forward: over the end of the week, and an hour in spring
    edge (ticks (1439 ∷ 0 ∷ []) (10079 ∷ 0 ∷ [])) (starting ([] ∷ (0 ∷ []) ∷ [])) ∷
    edge (ticks (120 ∷ 121 ∷ 180 ∷ []) (120 ∷ 180 ∷ [])) (starting ([] ∷ (121 ∷ 180 ∷ []) ∷ [])) ∷
    -- only that tick is quiet: after 2:59, 2:00 the rule at 2:00 does not start again, the one at 2:30 does, at 2:30
    edge (ticks (120 ∷ 150 ∷ []) (119 ∷ 120 ∷ 149 ∷ 150 ∷ 179 ∷ 120 ∷ 149 ∷ 150 ∷ []))
    (starting ([] ∷ (120 ∷ []) ∷ [] ∷ (150 ∷ []) ∷ [] ∷ [] ∷ [] ∷ (150 ∷ []) ∷ [])) ∷
    -- the minute is remembered: corrected by a minute, the clock starts a rule twice
    edge (ticks (500 ∷ []) (499 ∷ 500 ∷ 499 ∷ 500 ∷ [])) (starting ([] ∷ (500 ∷ []) ∷ [] ∷ (500 ∷ []) ∷ [])) ∷
    -- without a sun: 1 and 120 behind count nothing, 121 behind counts
    edge (history solar (tick_in 300 ∷ tick_in 299 ∷ tick_in 179 ∷ counters ∷ [])) ([] ∷ [] ∷ [] ∷ [] ∷ unsynced 0 ∷ []) ∷
    edge (history solar (tick_in 300 ∷ tick_in 179 ∷ counters ∷ [])) ([] ∷ [] ∷ [] ∷ unsynced 1 ∷ []) ∷
    -- a tick without a clock counts and forgets, and no set-back is seen behind it
    edge (history solar (tick_in 300 ∷ tick_at 1 ∷ tick_in 299 ∷ counters ∷ [])) ([] ∷ [] ∷ [] ∷ [] ∷ unsynced 1 ∷ []) ∷
    -- runs do not remember: behind 300 and a run at 299, the tick at 301 makes up for 301 alone
    edge (history (daily (300 ∷ 301 ∷ [])) (tick_in 300 ∷ run 301 false (snapshot 1 (1 ∷ 0 ∷ 299 ∷ []) absent) 72 45 ∷ tick_in 301 ∷ []))
    (starting ([] ∷ (301 ∷ []) ∷ (301 ∷ []) ∷ [])) ∷
    -- nor does a tick without a set
    edge (force (daily (300 ∷ 301 ∷ [])) (λ again. history again (tick_in 300 ∷ unload 1 ∷ tick_in 299 ∷ load 1 again ∷ tick_in 301 ∷ [])))
    (starting ([] ∷ [] ∷ [] ∷ [] ∷ (301 ∷ []) ∷ [])) ∷
    -- the continuation, the timer and the Every slot of such a tick are as ever
    edge (history others (tick_at_minute 1 0 300 ∷ run_wet 4 2 ∷ tick_at_minute 12 0 299 ∷ []))
    ([] ∷ ((1 ∷ 0 ∷ 7 ∷ []) ∷ []) ∷ ((4 ∷ 0 ∷ []) ∷ []) ∷ ((4 ∷ 0 ∷ 2 ∷ []) ∷ (2 ∷ 0 ∷ 7 ∷ []) ∷ (1 ∷ 0 ∷ 7 ∷ []) ∷ []) ∷ []) ∷
    []

-- one name that opens them all
unfoldable pub rows : ℕ
unfolding samples daily tick_in ticks starting solar unsynced others table
rows = 0
