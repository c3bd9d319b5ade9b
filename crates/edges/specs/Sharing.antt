-- Repeats round Afters: request 8 of document 02, as tables. Copies made by one Repeat share the bodies of its first copy; no others are shared.
-- Its large sets are in crate `sharing`: every edit of a definition has this crate checked again.
use Rattle.std.specs.Prelude.{ℕ, cond, List, [], ◌∷◌, ◌++◌, map, eqb, take, drop, replicate}
use Rattle.model.specs.Lists.{flatten}
use Rattle.model.specs.Flat.{Row, flatten_rule, flatten_rules, steps_in, every_copy_in, taken_in}
use Rattle.edges.specs.Samples.{tabled, starts, rule, log, logs, after, tick_at, run_wet, run_dry, force, history, Edge, edge, samples}

-- IMAGES ----------------------------------------------------------------------------------------------------------------------------
-- budget 256, call depth 2; rule 5 does the first n actions; condition 0 asks whether the controller is active
unfoldable pub image_with : ℕ → List (List ℕ) → List (List ℕ) → List ℕ
image_with n blocks actions =
    let tables : List (List ℕ) = tabled 16 (rule 5 0 0 0 0 0 0 n ∷ []) ∷ tabled 8 blocks ∷ [] ∷ tabled 8 ((14 ∷ []) ∷ []) ∷ tabled 8 actions ∷ [] ∷ [] ∷ [] ∷ [] in
    flatten tables ++ (256 ∷ 2 ∷ 255 ∷ 255 ∷ 255 ∷ []) ++ starts 0 tables

unfoldable pub repeat : ℕ → ℕ → ℕ → List ℕ
repeat times first count = 26 ∷ times ∷ first ∷ count ∷ []

unfoldable pub call : ℕ → List ℕ
call block = 25 ∷ block ∷ []

unfoldable pub conditional : ℕ → ℕ → ℕ → ℕ → List ℕ
conditional yf yk ef ek = 27 ∷ 0 ∷ yf ∷ yk ∷ ef ∷ ek ∷ []

-- Repeat 100 of an After of 30 Logs
unfoldable pub milking : List ℕ
milking = image_with 1 [] (repeat 100 1 1 ∷ after 9 2 30 ∷ logs 30)

-- Repeat 2 of (After of a Log 1, Log 2)
unfoldable pub twice : List ℕ
twice = image_with 1 [] (repeat 2 1 2 ∷ after 9 3 1 ∷ log 2 ∷ log 1 ∷ [])

-- a block with Repeat 5 of an After of 100 Logs, called twice
unfoldable pub called_twice : List ℕ
called_twice = image_with 2 ((3 ∷ 2 ∷ 1 ∷ []) ∷ []) (call 3 ∷ call 3 ∷ repeat 5 3 1 ∷ after 9 4 100 ∷ logs 100)

-- Repeat 2 and Repeat 3 over one nested list, an After of 10 Logs
unfoldable pub two_repeats : List ℕ
two_repeats = image_with 2 [] (repeat 2 2 1 ∷ repeat 3 2 1 ∷ after 9 3 10 ∷ logs 10)

-- Repeat 2 of an After of the one Log, Repeat 2 of an After of the other
unfoldable pub two_bodies : List ℕ
two_bodies = image_with 2 [] (repeat 2 2 1 ∷ repeat 2 3 1 ∷ after 9 4 1 ∷ after 9 5 1 ∷ logs 2)

-- Repeat 2 of two Afters of the same 10 Logs
unfoldable pub two_afters : List ℕ
two_afters = image_with 1 [] (repeat 2 1 2 ∷ after 9 3 10 ∷ after 9 3 10 ∷ logs 10)

-- Repeat 3 of a Conditional: then an After of 10 Logs, else a Log
unfoldable pub regions : List ℕ
regions = image_with 1 [] (repeat 3 1 1 ∷ conditional 2 1 3 1 ∷ after 9 3 10 ∷ logs 10)

-- 200 Logs, then Repeat 2 of 57 Afters of the same Log
unfoldable pub no_copy : List ℕ
no_copy = image_with 201 [] (logs 200 ++ (repeat 2 201 57 ∷ []) ++ replicate 57 (after 9 258 1) ++ logs 1)

-- WHAT IS COMPARED --------------------------------------------------------------------------------------------------------------------
-- of a set: what 16 counts, what it counted in every copy, and actions taken
unfoldable pub counts : List ℕ → List (List (List ℕ))
counts image = force image (λ img. let fs = flatten_rules img in ((steps_in fs ∷ every_copy_in fs ∷ taken_in fs ∷ []) ∷ []) ∷ [])

unfoldable pub are : ℕ → ℕ → ℕ → List (List (List ℕ))
are now before taken = ((now ∷ before ∷ taken ∷ []) ∷ []) ∷ []

-- the records of the actions in the body that each after's row names, place by place; [] at every other row
unfoldable pub named_by : List Row → Row → List ℕ
named_by bodies (kind, (x, (first, size))) = cond (eqb kind 3) (map (λ (r : Row). r.1.0) (take size (drop first bodies))) []

unfoldable pub named : List ℕ → List (List (List ℕ))
named image = force image (λ img. let f = flatten_rule img 0 in map (named_by f.bodies) f.rows ∷ [])

-- what 16 counts
unfoldable pub counted : List Edge
counted =
    edge (counts milking) (are 130 3100 32) ∷
    edge (counts twice) (are 5 6 4) ∷
    -- no others are shared: two flattenings of one Repeat, two Repeats over one list, two Afters of one body
    edge (counts called_twice) (are 210 1010 206) ∷
    edge (counts two_repeats) (are 25 55 24) ∷
    edge (counts two_afters) (are 24 44 23) ∷
    -- through regions
    edge (counts regions) (are 19 39 14) ∷
    -- the first copy does not fit: one Fail, no body
    edge (counts no_copy) (are 201 201 315) ∷
    []

-- what a set of copies does
unfoldable pub running : List Edge
running =
    -- every copy names the body of its own Repeat
    edge (named twice) (((3 ∷ []) ∷ [] ∷ (3 ∷ []) ∷ [] ∷ []) ∷ []) ∷
    edge (named two_bodies) (((4 ∷ []) ∷ (4 ∷ []) ∷ (5 ∷ []) ∷ (5 ∷ []) ∷ []) ∷ []) ∷
    -- wet: both copies schedule, and both run; dry, the body is queued for each
    edge (history twice (run_wet 5 0 ∷ tick_at 8 ∷ tick_at 9 ∷ run_dry 5 10 ∷ []))
    ([] ∷ ((5 ∷ 0 ∷ 2 ∷ 2 ∷ []) ∷ []) ∷ [] ∷ ((5 ∷ 0 ∷ 1 ∷ []) ∷ (5 ∷ 0 ∷ 1 ∷ []) ∷ []) ∷ ((5 ∷ 0 ∷ 2 ∷ 2 ∷ 1 ∷ 1 ∷ []) ∷ []) ∷ []) ∷
    []

-- one name that opens them all
unfoldable pub rows : ℕ
unfolding samples image_with repeat call conditional milking twice called_twice two_repeats two_afters regions no_copy two_bodies counts are named_by named counted running
rows = 0
