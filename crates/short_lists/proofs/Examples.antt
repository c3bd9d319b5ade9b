-- Worked examples of the request, computed. Assumes nothing.
use mathlib.Core.Path.{◌≡◌, refl}
use mathlib.Core.Bool.{true, false}
use mathlib.Core.List.{[], ◌∷◌, map}
use Rattle.model.specs.ShortLists.{lists_of, lists_from, short_lists, list_at, is_plain, places_of}

-- of eight records
lists-of-eight :
    map (list_at 8) (0 ∷ 8 ∷ 9 ∷ 10 ∷ 17 ∷ 73 ∷ 584 ∷ [])
    ≡ [] ∷ (7 ∷ []) ∷ (0 ∷ 0 ∷ []) ∷ (0 ∷ 1 ∷ []) ∷ (1 ∷ 0 ∷ []) ∷ (0 ∷ 0 ∷ 0 ∷ []) ∷ (7 ∷ 7 ∷ 7 ∷ []) ∷ []
unfolding list_at short_lists lists_from lists_of
lists-of-eight = refl

-- of one record
lists-of-one : short_lists 1 ≡ [] ∷ (0 ∷ []) ∷ (0 ∷ 0 ∷ []) ∷ (0 ∷ 0 ∷ 0 ∷ []) ∷ []
unfolding short_lists lists_from lists_of
lists-of-one = refl

-- Call, Wait and Percent pass, After, Repeat and Conditional do not
plain-kinds : map is_plain (23 ∷ 24 ∷ 25 ∷ 26 ∷ 27 ∷ 28 ∷ []) ≡ true ∷ false ∷ true ∷ false ∷ false ∷ true ∷ []
unfolding is_plain
plain-kinds = refl

-- length and places, 0 past the length
places-of-two : places_of (1 ∷ 0 ∷ []) ≡ 2 ∷ 1 ∷ 0 ∷ 0 ∷ []
unfolding places_of
places-of-two = refl
