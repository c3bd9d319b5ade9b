-- The readback of solar starts, worked (document 02, request 4): order, what is passed over, a sun that is not known, unknown rules, and refusals.
use Prim.Native.Nat.{ℕ, ◌-◌, ◌^◌}
use mathlib.Core.Path.{◌≡◌, refl}
use mathlib.Core.List.{List, [], ◌∷◌}
use lib.ListN.{replicate}
use Rattle.model.specs.Calls.{load, fresh, call}
use Rattle.model.specs.Asked as asked
use Rattle.model.specs.Asked.{Asked, declined}
use Rattle.model.specs.Readback.{start_words, start_of, solar_starts, triggers_named, shown_starts, readback, readback_on}
use Rattle.edges.specs.Samples.{image_of, rule, logs, snapshot, absent, force, samples}
use Rattle.edges.proofs.Definitions.{definitions}

-- one name that opens the definitions
unfoldable opened : ℕ
unfolding definitions samples asked.declined asked.asked start_words start_of solar_starts triggers_named shown_starts readback readback_on
opened = 0

-- rule 5, which is disabled: at 4:00, a millisecond after sunset, every 100 ms, a minute and a half before sunrise, an event; rule 6: no trigger
mixed : List ℕ
mixed =
    image_of 8 ((5 ∷ 0 ∷ 0 ∷ 0 ∷ 0 ∷ 5 ∷ 0 ∷ 0 ∷ 0 ∷ 1 ∷ []) ∷ rule 6 0 0 0 0 0 0 1 ∷ [])
    ((2 ∷ 4 ∷ 0 ∷ 127 ∷ []) ∷ (3 ∷ 1 ∷ 1 ∷ []) ∷ (1 ∷ 100 ∷ []) ∷ (3 ∷ 0 ∷ (2 ^ 32 - 90000) ∷ []) ∷ (4 ∷ []) ∷ [])
    [] (logs 1) []

sunny : List ℕ
sunny = snapshot 0 absent (1 ∷ 10 ∷ 1000 ∷ [])

cloudy : List ℕ
cloudy = snapshot 0 absent absent

-- on a new store that has loaded the image
asking : ℕ → List ℕ → ℕ → Asked
asking name snap room = force mixed (λ img. readback name snap room (call (load 0 img) (fresh 0)).store)

found : List ℕ → Asked
found words = record { number = 0; values = 2 ∷ []; lent = words }

none : ℕ → Asked
none room = record { number = 0; values = 0 ∷ []; lent = replicate room 0 }

starts :
    (asking 5 sunny 6 ≡ found (0 ∷ 1000 ∷ 1 ∷ 0 ∷ 9 ∷ (2 ^ 32 - 30000) ∷ []))
    × (asking 5 sunny 8 ≡ found (0 ∷ 1000 ∷ 1 ∷ 0 ∷ 9 ∷ (2 ^ 32 - 30000) ∷ 0 ∷ 0 ∷ []))
    × (asking 5 cloudy 6 ≡ found (1 ∷ 0 ∷ 0 ∷ 1 ∷ 0 ∷ 0 ∷ []))
    × (asking 5 sunny 5 ≡ declined 5 30)
unfolding opened asking mixed sunny cloudy found
starts = (refl, refl, refl, refl)

no-starts :
    (asking 6 sunny 0 ≡ none 0)
    × (asking 7 sunny 4 ≡ none 4)
    × (readback 5 sunny 4 (fresh 0) ≡ none 4)
unfolding opened asking mixed sunny none
no-starts = (refl, refl, refl)

-- words that are no store come first
no-store : readback_on 7 [] 4 [] ≡ declined 4 1
unfolding opened
no-store = refl
