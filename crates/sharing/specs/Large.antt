-- Request 8's large sets, as a table.
use Rattle.std.specs.Prelude.{ℕ, ◌+◌, List, [], ◌∷◌, ◌++◌, replicate}
use Rattle.edges.specs.Samples.{logs, after, history, Edge, edge}
use Rattle.edges.specs.Sharing as sets
use Rattle.edges.specs.Sharing.{image_with, repeat, call, counts, are}

-- Repeat 36 of seven Afters of the same 256 Logs, then so many Logs
unfoldable pub full : ℕ → List ℕ
full n = image_with (1 + n) [] ((repeat 36 6 7 ∷ logs 5) ++ replicate 7 (after 9 13 256) ++ logs 256)

-- the same with bodies of 16 calls of a block of 16 Logs: a small image
unfoldable pub full_by_calls : ℕ → List ℕ
full_by_calls n =
    image_with (1 + n) ((3 ∷ 29 ∷ 16 ∷ []) ∷ []) ((repeat 36 6 7 ∷ logs 5) ++ replicate 7 (after 9 13 16) ++ replicate 16 (call 3) ++ logs 16)

-- 200 Logs, then Repeat 2 of 57 Afters of 100 Logs
unfoldable pub no_copy : List ℕ
no_copy = image_with 201 [] (logs 200 ++ (repeat 2 201 57 ∷ []) ++ replicate 57 (after 9 258 100) ++ logs 100)

-- 200 Logs, then Repeat 3 of 28 Afters of the same 50 Logs: two copies fit
unfoldable pub some_copies : List ℕ
some_copies = image_with 201 [] (logs 200 ++ (repeat 3 201 28 ∷ []) ++ replicate 28 (after 9 229 50) ++ logs 50)

-- Repeat 255 of a call of a block with 299 calls of an empty block
unfoldable pub no_steps : List ℕ
no_steps = image_with 1 ((3 ∷ 2 ∷ 299 ∷ []) ∷ (4 ∷ 0 ∷ 0 ∷ []) ∷ []) (repeat 255 1 1 ∷ call 3 ∷ replicate 299 (call 4))

-- what 16 counts, what it counted in every copy, actions taken
unfoldable pub counted : List Edge
counted =
    -- the fifth Log is the Fail at the cap
    edge (counts (full 4)) (are 2048 64768 1804) ∷
    edge (counts (full 5)) (are 2049 64769 1804) ∷
    -- the first copy does not fit: one Fail, no body
    edge (counts no_copy) (are 201 201 5958) ∷
    -- a later copy does not fit: the bodies are those of the first
    edge (counts some_copies) (are 1657 3057 1629) ∷
    -- actions are taken once for all copies
    edge (counts no_steps) (are 0 0 301) ∷
    []

-- both sides of 2,048
unfoldable pub loading : List Edge
loading =
    edge (history (full_by_calls 4) []) ([] ∷ []) ∷
    edge (history (full_by_calls 5) []) (((16 ∷ []) ∷ []) ∷ []) ∷
    []

-- one name that opens them all
unfoldable pub rows : ℕ
unfolding sets.rows full full_by_calls no_copy some_copies no_steps counted loading
rows = 0
