-- The number of an activation: request 6 of document 02, as one table.
use Rattle.std.specs.Prelude.{ℕ, suc, ◌-◌, ◌^◌, true, false, List, [], ◌∷◌, map}
use Rattle.words.specs.Saturating.{max64}
use Rattle.model.specs.declared.Effect.{Effect}
use Rattle.model.specs.declared.Pending.{Pending}
use Rattle.model.specs.Outcome.{Outcome}
use Rattle.model.specs.State.{Store}
use Rattle.model.specs.Store.{bit_of, rules_hold}
use Rattle.model.specs.Activate.{Handled}
use Rattle.model.specs.Calls.{Call, load, unload, enable, run, Answer, done, refused, enabled, handled, due, counted, fresh, answers, call, overflow}
use Rattle.edges.specs.Samples.{image_of, rule, log, wait, snapshot, absent, run_wet, run_dry, tick_at, force, Edge, edge, samples}

-- WHAT IS COMPARED ------------------------------------------------------------------------------------------------------------------
-- of an outcome: number, reason, and the first word of each effect (of a Log, its text)
unfoldable pub number_shown : Outcome → List ℕ
number_shown o = o.number ∷ o.reason ∷ map (λ (x : Effect). x.a) o.effects

-- of an answer: a line for each of its outcomes, or one for a refusal
unfoldable pub numbers_seen : Answer → List (List ℕ)
numbers_seen done = []
numbers_seen (refused n) = (n ∷ []) ∷ []
numbers_seen (enabled b) = []
numbers_seen (handled os) = map number_shown os
numbers_seen (due t) = []
numbers_seen (counted cs) = []

-- of calls on a store that has loaded an image
unfoldable pub numbers_in : Store → List ℕ → List Call → List (List (List ℕ))
numbers_in s image cs = force image (λ img. map numbers_seen (answers s (load 0 img ∷ cs)))

-- IMAGES AND STORES -----------------------------------------------------------------------------------------------------------------
-- rule 5: Log 1, Wait 1000, Log 2, Wait 1000, Log 3; rule 6: Log 1
unfoldable pub presses : List ℕ
presses = image_of 8 (rule 5 0 0 0 0 0 0 5 ∷ rule 6 0 0 0 0 0 0 1 ∷ []) [] [] (log 1 ∷ wait 1000 ∷ log 2 ∷ wait 1000 ∷ log 3 ∷ []) []

-- rule 1 has no action; the conditions of rule 2 (the controller is active) are rejected, those of rule 3 (a range of times) cannot be
-- evaluated without a clock; rule 4 is one Fail (a call of a block that is not there); rule 5 logs every millisecond, cooldown 1000
unfoldable pub several : List ℕ
several =
    image_of 8 (rule 1 0 0 0 0 0 0 0 ∷ rule 2 0 0 0 0 1 1 1 ∷ rule 3 0 0 0 1 1 1 1 ∷ rule 4 0 0 0 0 0 0 1 ∷ rule 5 1000 0 1 0 0 1 1 ∷ [])
    ((1 ∷ 1 ∷ []) ∷ []) ((14 ∷ []) ∷ (0 ∷ 0 ∷ 1 ∷ []) ∷ []) ((25 ∷ 9 ∷ []) ∷ log 7 ∷ []) ((0 ∷ 22 ∷ 0 ∷ []) ∷ (0 ∷ 6 ∷ 0 ∷ []) ∷ [])

-- a store whose last number is n
unfoldable pub given : ℕ → Store → Store
given n s = record s { vol = record (s.vol) { last_number = n } }

-- a run of rule 6 with room for this many words
unfoldable pub narrow : ℕ → ℕ → Call
narrow outcomes effects = run 6 false (snapshot 0 absent absent) outcomes effects

-- what one activation handled, with these numbers behind it: room for no outcome, and for one
unfoldable pub handled_with : ℕ → ℕ → Handled
handled_with next last =
    record {
      vol = record { rest = (fresh 0).vol.rest; pending = []; next = next; last_number = last };
      outcomes = record { rule = 1; dry = 0; trigger = 0; reason = 0; effects = []; number = 1 } ∷ [];
      trace = [];
    }

-- whether the rules hold of a store whose one pending record has number n, where 1 is the last
unfoldable pub renumbered : ℕ → Pending → Pending
renumbered n c = record c { number = n }

unfoldable pub holds_with : ℕ → List ℕ
holds_with n =
    force presses (λ img.
    let s = (call (run_wet 5 0) (call (load 0 img) (fresh 0)).store).store in
    bit_of (rules_hold (record s { vol = record (s.vol) { pending = map (renumbered n) s.vol.pending } })) ∷ [])

unfoldable pub table : List Edge
table =
    -- a continuation inherits its own number, not the last one given; a dry run shows 0; a load keeps the last number; an unknown rule takes none
    edge (force presses (λ again. numbers_in (fresh 0) again
    (run_wet 5 0 ∷ run_wet 6 0 ∷ tick_at 1000 ∷ tick_at 2000 ∷ run_dry 6 2000 ∷ load 2000 again ∷ run_wet 9 2000 ∷ run_wet 6 2000 ∷ [])))
    ([] ∷ ((1 ∷ 0 ∷ 1 ∷ []) ∷ []) ∷ ((2 ∷ 0 ∷ 1 ∷ []) ∷ []) ∷ ((1 ∷ 0 ∷ 2 ∷ []) ∷ []) ∷ ((1 ∷ 0 ∷ 3 ∷ []) ∷ []) ∷ ((0 ∷ 0 ∷ 1 ∷ []) ∷ []) ∷ [] ∷ [] ∷ ((3 ∷ 0 ∷ 1 ∷ []) ∷ []) ∷ []) ∷
    -- so do unload and enable; a rule that is off takes none
    edge (force presses (λ again. numbers_in (fresh 0) again (run_wet 6 0 ∷ unload 0 ∷ load 0 again ∷ enable 6 false ∷ run_wet 6 0 ∷ enable 6 true ∷ run_wet 6 0 ∷ [])))
    ([] ∷ ((1 ∷ 0 ∷ 1 ∷ []) ∷ []) ∷ [] ∷ [] ∷ [] ∷ [] ∷ [] ∷ ((2 ∷ 0 ∷ 1 ∷ []) ∷ []) ∷ []) ∷
    -- an empty list has a number, rejected conditions take none, what cannot be evaluated shows 0, a Fail with the same reason has one
    edge (numbers_in (fresh 0) several (run_wet 1 0 ∷ run_wet 2 0 ∷ run_wet 3 0 ∷ run_wet 4 0 ∷ []))
    ([] ∷ ((1 ∷ 0 ∷ []) ∷ []) ∷ [] ∷ ((0 ∷ 1 ∷ []) ∷ []) ∷ ((2 ∷ 1 ∷ []) ∷ []) ∷ []) ∷
    -- nor does a cooldown take one
    edge (numbers_in (fresh 0) several (tick_at 1 ∷ tick_at 2 ∷ run_wet 1 3 ∷ [])) ([] ∷ ((1 ∷ 0 ∷ 7 ∷ []) ∷ []) ∷ [] ∷ ((2 ∷ 0 ∷ []) ∷ []) ∷ []) ∷
    -- an outcome is 8 words; a refused call takes none
    edge (numbers_in (fresh 0) presses (narrow 7 5 ∷ narrow 15 4 ∷ narrow 15 5 ∷ [])) ([] ∷ ((30 ∷ []) ∷ []) ∷ ((30 ∷ []) ∷ []) ∷ ((1 ∷ 0 ∷ 1 ∷ []) ∷ []) ∷ []) ∷
    -- 2^64 - 1 is given; then 32, while resumptions, dry runs and unknown rules are answered
    edge (numbers_in (given (max64 - 1) (fresh 0)) presses (run_wet 5 0 ∷ run_wet 6 0 ∷ tick_at 1000 ∷ run_dry 6 1000 ∷ run_wet 9 1000 ∷ run_wet 6 1000 ∷ []))
    ([] ∷ ((max64 ∷ 0 ∷ 1 ∷ []) ∷ []) ∷ ((32 ∷ []) ∷ []) ∷ ((max64 ∷ 0 ∷ 2 ∷ []) ∷ []) ∷ ((0 ∷ 0 ∷ 1 ∷ []) ∷ []) ∷ [] ∷ ((32 ∷ []) ∷ []) ∷ []) ∷
    -- so are rejected conditions and those that cannot be evaluated
    edge (numbers_in (given max64 (fresh 0)) several (run_wet 2 0 ∷ run_wet 3 0 ∷ run_wet 1 0 ∷ [])) ([] ∷ [] ∷ ((0 ∷ 1 ∷ []) ∷ []) ∷ ((32 ∷ []) ∷ []) ∷ []) ∷
    -- 30, then 31, then 32
    edge (((overflow 7 0 (handled_with (suc max64) (suc max64)) ∷ overflow 8 0 (handled_with (suc max64) (suc max64)) ∷ overflow 8 0 (handled_with max64 (suc max64)) ∷ overflow 8 0 (handled_with max64 max64) ∷ []) ∷ []) ∷ [])
    (((30 ∷ 31 ∷ 32 ∷ 0 ∷ []) ∷ []) ∷ []) ∷
    -- the store rule: not 0, not past the last, not with a high word of 1
    edge ((holds_with 0 ∷ holds_with 1 ∷ holds_with 2 ∷ holds_with (suc (2 ^ 32)) ∷ []) ∷ []) (((0 ∷ []) ∷ (1 ∷ []) ∷ (0 ∷ []) ∷ (0 ∷ []) ∷ []) ∷ []) ∷
    []

-- one name that opens them all
unfoldable pub rows : ℕ
unfolding samples number_shown numbers_seen numbers_in presses several given narrow handled_with renumbered holds_with table
rows = 0
