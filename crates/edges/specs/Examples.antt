-- Worked examples beside the starred edges: document 01's other edges, and what is wrong though it looks right. One table.
use Rattle.std.specs.Prelude.{ℕ, ◌-◌, ◌^◌, false, List, [], ◌∷◌, ◌++◌, map, replicate}
use Rattle.model.specs.Lists.{up_from}
use Rattle.model.specs.State.{Store}
use Rattle.model.specs.Calls.{Call, load, unload, enable, run, deadline, counters, fresh, answers, call}
use Rattle.edges.specs.Samples.{image_of, rule, log, logs, wait, after, percent, literal, doing, valued, snapshot, absent, tick_at, tick_at_minute, run_wet, run_dry, seen, force, history, Edge, edge, samples}

-- a Wait of 0 and a Log, every millisecond
unfoldable pub zero_wait : List ℕ
zero_wait = image_of 8 (rule 5 0 0 1 0 0 0 2 ∷ []) ((1 ∷ 1 ∷ []) ∷ []) [] (wait 0 ∷ log 1 ∷ []) []

-- rule 5 waits, disables rule 6 and logs 1; rule 6 waits and logs 2
unfoldable pub two_rules : List ℕ
two_rules =
    image_of 8 (rule 5 0 0 0 0 0 0 3 ∷ rule 6 0 0 0 0 0 3 2 ∷ []) [] []
    (wait 10 ∷ (19 ∷ 6 ∷ []) ∷ log 1 ∷ wait 10 ∷ log 2 ∷ []) []

-- cooldown 1000
unfoldable pub cooled : List ℕ
cooled = image_of 8 (rule 5 1000 0 0 0 0 0 1 ∷ []) [] [] (logs 1) []

-- B 2: if the controller is active then two Logs; a Log
unfoldable pub skipping : List ℕ
skipping = image_of 2 (rule 5 0 0 0 0 0 0 2 ∷ []) [] ((14 ∷ []) ∷ []) ((27 ∷ 0 ∷ 2 ∷ 2 ∷ 4 ∷ 0 ∷ []) ∷ log 3 ∷ log 1 ∷ log 2 ∷ []) []

-- rule 5 starts timers 1 to 16, rule 6 timer 17; rule 7 starts timer 3 again
unfoldable pub timers : List ℕ
timers =
    image_of 20 (rule 5 0 0 0 0 0 0 16 ∷ rule 6 0 0 0 0 0 16 1 ∷ rule 7 0 0 0 0 0 17 1 ∷ []) [] []
    (map (λ k. 13 ∷ k ∷ 10 ∷ []) (up_from 1 17) ++ ((14 ∷ 3 ∷ 10 ∷ []) ∷ [])) []

unfoldable pub empty : List ℕ
empty = image_of 8 [] [] [] [] []

-- 33 Afters of one Log
unfoldable pub many : List ℕ
many = doing 64 33 (replicate 33 (after 10 33 1) ++ logs 1)

-- Wait 10, Log 1
unfoldable pub not_due : List ℕ
not_due = doing 8 2 (wait 10 ∷ log 1 ∷ [])

unfoldable pub periodic : List ℕ
periodic = image_of 8 (rule 5 0 0 1 0 0 0 1 ∷ []) ((1 ∷ 100 ∷ []) ∷ []) [] (logs 1) []

-- at 4:00
unfoldable pub early : List ℕ
early = image_of 8 (rule 5 0 0 1 0 0 0 1 ∷ []) ((2 ∷ 4 ∷ 0 ∷ 127 ∷ []) ∷ []) [] (logs 1) []

-- lights 1, 2 and 3 at the least value that has a level, at one less, and at 0
unfoldable pub dimmed : List ℕ
dimmed = valued 8 3 (percent 1 2 0 ∷ percent 2 2 1 ∷ percent 3 2 2 ∷ []) (literal 1000 ∷ literal 999 ∷ literal 0 ∷ [])

-- an action that no rule meets
unfoldable pub unmet : List ℕ → List ℕ
unmet action = valued 8 0 (action ∷ []) (literal 0 ∷ [])

-- a run of rule 5 with little room
unfoldable pub narrow : ℕ → ℕ → Call
narrow outcomes effects = run 5 false (snapshot 0 absent absent) outcomes effects

-- a store whose next sequence number is the last one
unfoldable pub late : Store → Store
late s = record s { vol = record (s.vol) { next = 2 ^ 64 - 1 } }

unfoldable pub examples : List Edge
examples =
    -- wrong: firing a zero wait in the tick that scheduled it
    edge (history zero_wait (tick_at 1 ∷ tick_at 1 ∷ [])) ([] ∷ ((5 ∷ 0 ∷ []) ∷ []) ∷ ((5 ∷ 0 ∷ 1 ∷ []) ∷ []) ∷ []) ∷
    -- wrong: skipping a continuation of a rule that an earlier one disabled in the same tick
    edge (history two_rules (run_wet 5 0 ∷ run_wet 6 0 ∷ tick_at 10 ∷ [])) ([] ∷ ((5 ∷ 0 ∷ []) ∷ []) ∷ ((6 ∷ 0 ∷ []) ∷ []) ∷ ((5 ∷ 0 ∷ 1 ∷ []) ∷ (6 ∷ 0 ∷ 2 ∷ []) ∷ []) ∷ []) ∷
    -- wrong: applying the cooldown to manual runs
    edge (history cooled (run_wet 5 0 ∷ run_wet 5 1 ∷ [])) ([] ∷ ((5 ∷ 0 ∷ 7 ∷ []) ∷ []) ∷ ((5 ∷ 0 ∷ 7 ∷ []) ∷ []) ∷ []) ∷
    -- wrong: charging budget for a skipped branch
    edge (history skipping (run_wet 5 0 ∷ [])) ([] ∷ ((5 ∷ 0 ∷ 3 ∷ []) ∷ []) ∷ []) ∷
    -- wrong: stopping a run on Fail (a call of a block that is not there)
    edge (history (doing 8 2 ((25 ∷ 9 ∷ []) ∷ log 1 ∷ [])) (run_wet 5 0 ∷ [])) ([] ∷ ((5 ∷ 1 ∷ 1 ∷ []) ∷ []) ∷ []) ∷
    -- timer 17: reason 1; restart of one of 16: fine
    edge (history timers (run_wet 5 0 ∷ run_wet 6 0 ∷ run_wet 7 5 ∷ deadline ∷ []))
    ([] ∷ ((5 ∷ 0 ∷ []) ∷ []) ∷ ((6 ∷ 1 ∷ []) ∷ []) ∷ ((7 ∷ 0 ∷ []) ∷ []) ∷ ((10 ∷ []) ∷ []) ∷ []) ∷
    -- no set: due timers remain; a set without rules: they go, silently
    edge (force empty (λ none-there. history timers (run_wet 6 0 ∷ unload 0 ∷ tick_at 20 ∷ deadline ∷ load 20 none-there ∷ tick_at 30 ∷ deadline ∷ [])))
    ([] ∷ ((6 ∷ 0 ∷ []) ∷ []) ∷ [] ∷ [] ∷ ((10 ∷ []) ∷ []) ∷ [] ∷ [] ∷ ([] ∷ []) ∷ []) ∷
    -- the 33rd continuation is dropped: reason 2; counters: 32 scheduled, 1 dropped, 32 pending
    edge (history many (run_wet 5 0 ∷ counters ∷ []))
    ([] ∷ ((5 ∷ 2 ∷ []) ∷ []) ∷ ((1 ∷ 0 ∷ 0 ∷ 0 ∷ 0 ∷ 1 ∷ 0 ∷ 0 ∷ 32 ∷ 0 ∷ 1 ∷ 0 ∷ 32 ∷ 0 ∷ 1 ∷ 0 ∷ []) ∷ []) ∷ []) ∷
    -- a dry run: the body behind all that is queued, and nothing is left
    edge (history (doing 8 2 (after 10 2 1 ∷ log 2 ∷ log 1 ∷ [])) (run_dry 5 0 ∷ deadline ∷ []))
    ([] ∷ ((5 ∷ 0 ∷ 2 ∷ 1 ∷ []) ∷ []) ∷ ([] ∷ []) ∷ []) ∷
    -- a dry run spends its budget too: B 2, and three Logs
    edge (history (doing 2 3 (logs 3)) (run_dry 5 0 ∷ [])) ([] ∷ ((5 ∷ 2 ∷ 7 ∷ 7 ∷ []) ∷ []) ∷ []) ∷
    -- Fail does not stop a dry run either
    edge (history (doing 8 2 ((25 ∷ 9 ∷ []) ∷ log 1 ∷ [])) (run_dry 5 0 ∷ [])) ([] ∷ ((5 ∷ 1 ∷ 1 ∷ []) ∷ []) ∷ []) ∷
    -- nor is a skipped branch charged in one
    edge (history skipping (run_dry 5 0 ∷ [])) ([] ∷ ((5 ∷ 0 ∷ 3 ∷ []) ∷ []) ∷ []) ∷
    -- disabling a rule strikes its continuations
    edge (history not_due (run_wet 5 0 ∷ enable 5 false ∷ tick_at 10 ∷ run_wet 5 20 ∷ [])) ([] ∷ ((5 ∷ 0 ∷ []) ∷ []) ∷ [] ∷ [] ∷ [] ∷ []) ∷
    -- a slot of equal rule, place and period is kept
    edge (force periodic (λ again. history again (load 50 again ∷ deadline ∷ []))) ([] ∷ [] ∷ ((100 ∷ []) ∷ []) ∷ []) ∷
    -- without a wall clock the minute before is forgotten
    edge (history early (tick_at_minute 1 0 239 ∷ tick_at 2 ∷ tick_at_minute 3 0 240 ∷ tick_at_minute 4 0 239 ∷ tick_at_minute 5 0 240 ∷ []))
    ([] ∷ [] ∷ [] ∷ [] ∷ [] ∷ ((5 ∷ 0 ∷ 7 ∷ []) ∷ []) ∷ []) ∷
    -- change request 1: a value without a level gives no effect and reason 1, and the run goes on; dry too
    edge (history dimmed (run_wet 5 0 ∷ run_dry 5 0 ∷ [])) ([] ∷ ((5 ∷ 1 ∷ 1 ∷ 3 ∷ []) ∷ []) ∷ ((5 ∷ 1 ∷ 1 ∷ 3 ∷ []) ∷ []) ∷ []) ∷
    -- the same: kind 28, kind 29, hold 3, an index outside the values, a fourth field
    edge (map seen (answers (fresh 0) (map (λ (a : List ℕ). load 0 (unmet a)) (percent 1 2 0 ∷ (29 ∷ []) ∷ percent 1 3 0 ∷ percent 1 2 1 ∷ (28 ∷ 1 ∷ 2 ∷ 0 ∷ 1 ∷ []) ∷ []))))
    ([] ∷ ((13 ∷ []) ∷ []) ∷ ((13 ∷ []) ∷ []) ∷ ((14 ∷ []) ∷ []) ∷ ((13 ∷ []) ∷ []) ∷ []) ∷
    -- 30: more outcomes or effects than the lent stores hold
    edge (history (doing 8 2 (logs 2)) (narrow 7 10 ∷ narrow 8 9 ∷ narrow 8 10 ∷ [])) ([] ∷ ((30 ∷ []) ∷ []) ∷ ((30 ∷ []) ∷ []) ∷ ((5 ∷ 0 ∷ 7 ∷ 7 ∷ []) ∷ []) ∷ []) ∷
    -- 31: the next sequence number past 2^64 - 1
    edge (map seen (answers (late (call (load 0 not_due) (fresh 0)).store) (run_wet 5 0 ∷ []))) (((31 ∷ []) ∷ []) ∷ []) ∷
    []

-- one name that opens them all
unfoldable pub rows : ℕ
unfolding samples zero_wait two_rules cooled skipping timers empty many not_due periodic early dimmed unmet narrow late examples
rows = 0
