-- Short lists by their places, and which of two comes first: what the theorems say of the numbering.
use Rattle.std.specs.Prelude.{ℕ, Bool, false, ◌&&◌, ◌||◌, List, [], ◌∷◌, ltb, eqb, length}
use Rattle.model.specs.Lists.{all}

-- at most three places, all below n
unfoldable pub is_short : ℕ → List ℕ → Bool
is_short n l = ltb (length l) 4 && all (λ p. ltb p n) l

-- of two lists of one length: the first place where they differ decides
unfoldable pub first_by_places : List ℕ → List ℕ → Bool
first_by_places [] [] = false
first_by_places [] (q ∷ m) = false
first_by_places (p ∷ l) [] = false
first_by_places (p ∷ l) (q ∷ m) = ltb p q || (eqb p q && first_by_places l m)

unfoldable pub comes_before : List ℕ → List ℕ → Bool
comes_before l m = ltb (length l) (length m) || (eqb (length l) (length m) && first_by_places l m)
