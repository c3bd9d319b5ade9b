-- Histories that show demand 3 at work.
use Rattle.std.specs.Prelude.{ℕ, true, false, List, [], ◌∷◌}
use Rattle.edges.specs.Samples.{log, wait, after, percent, literal, doing, valued, tick_at, run_wet}
use Rattle.edges.specs.Edges.{afters}
use Rattle.model.specs.Calls.{Call, load, enable}
use Rattle.model.specs.Steps.{point}
use Rattle.ledger.specs.Ledger.{Entry, Activation}
use Rattle.std.specs.Prelude.{None}

-- B 3: After of two Logs, After of one Log, Log
unfoldable pub after_calls : List Call
after_calls = load 0 afters ∷ run_wet 5 0 ∷ tick_at 10 ∷ []

-- B 3: After of two, After of one, one, each a light at half: action kind 28
unfoldable pub percents : List ℕ
percents = valued 3 3 (after 10 3 2 ∷ after 10 5 1 ∷ percent 1 2 0 ∷ percent 2 2 0 ∷ percent 3 2 0 ∷ percent 4 2 0 ∷ []) (literal 500000 ∷ [])

unfoldable pub percent_calls : List Call
percent_calls = load 0 percents ∷ run_wet 5 0 ∷ tick_at 10 ∷ []

-- the wet run, the first activation of these calls
unfoldable pub first_activation : Activation
first_activation = record { number = 0; budget = 3 }

-- B 8: Log, Wait 1000, Log
unfoldable pub waiting : List ℕ
waiting = doing 8 3 (log 7 ∷ wait 1000 ∷ log 9 ∷ [])

unfoldable pub continuation : Entry
continuation = record { rule = 5; point = point 0 2 None; due = 1000; budget = 6 }

-- early, in time, and once more
unfoldable pub wait_calls : List Call
wait_calls = load 0 waiting ∷ run_wet 5 0 ∷ tick_at 999 ∷ tick_at 1000 ∷ tick_at 2000 ∷ []

-- disabled while it waits, and enabled again
unfoldable pub disable_calls : List Call
disable_calls = load 0 waiting ∷ run_wet 5 0 ∷ enable 5 false ∷ enable 5 true ∷ tick_at 1000 ∷ []

-- the set is loaded again while it waits
unfoldable pub reload_calls : List Call
reload_calls = load 0 waiting ∷ run_wet 5 0 ∷ load 1 waiting ∷ tick_at 1000 ∷ []

-- one name that opens them all
unfoldable pub rows : ℕ
unfolding after_calls percents percent_calls first_activation waiting continuation wait_calls disable_calls reload_calls
rows = 0
