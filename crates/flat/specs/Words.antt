-- Flat steps as words: four words a step, as model's `step_row` has them (the law is `layout_is` of proofs/Words.antt).
use Rattle.std.specs.Prelude.{◌≡◌, Bool, true, false, cond, ◌&&◌, List, [], ◌∷◌, ◌++◌, map, ℕ, zero, suc, ◌+◌, ◌*◌, ◌/◌, eqb, leb, length, take, drop, get_or}
use Rattle.std.specs.Prelude.{Option, None, Some}
use Rattle.std.specs.Prelude.{slice_get}
use Rattle.model.specs.Codec.{rows_at}
use Rattle.model.specs.Parts.{step_row}
use Rattle.model.specs.Flat.{Row, list_in}
use Rattle.model.specs.Steps.{FlatStep}
use Rattle.model.specs.declared.Step.{Step}
use Rattle.model.specs.declared.Step.TheVariants.{Primitive, Wait, Branch, After, Fail}

-- the four words of a row
abbrev pub row_words : Row → List ℕ
row_words r = r.0 ∷ r.1.0 ∷ r.1.1.0 ∷ r.1.1.1 ∷ []

abbrev pub layout : List Row → List ℕ
layout [] = []
layout (r ∷ rs) = row_words r ++ layout rs

-- word `at` is x
abbrev pub is_at : Option ℕ → ℕ → Bool
is_at None x = false
is_at (Some y) x = eqb y x

-- these words stand in `seen` from `at` on
unfoldable pub same_at : List ℕ → ℕ → List ℕ → Bool
same_at seen at [] = true
same_at seen at (x ∷ xs) = is_at (slice_get seen at) x && same_at seen (suc at) xs

-- READING -----------------------------------------------------------------------------------------------------------------------------
-- the step that four words say
abbrev pub step_of : ℕ × (ℕ × (ℕ × ℕ)) → Step
step_of r =
    cond (eqb r.0 0) (Primitive r.1.0)
    (cond (eqb r.0 1) (Wait r.1.0)
    (cond (eqb r.0 2) (Branch r.1.0 r.1.1.0 r.1.1.1)
    (cond (eqb r.0 3) (After r.1.0) Fail)))

-- the steps that words say
unfoldable pub steps_in : List ℕ → List Step
steps_in w = map step_of (rows_at step_row (length w / 4) w)

-- the words of the body of the after in row i, as that row says; none where no after stands there
unfoldable pub body_words : List ℕ → ℕ → List ℕ
body_words w i =
    cond (leb (suc i * 4) (length w) && eqb (get_or w (i * 4) 0) 3)
    (take (get_or w (i * 4 + 3) 0 * 4) (drop (get_or w (i * 4 + 2) 0 * 4) w))
    []

-- the lists of a rule, in the words of its part of the flat steps, whose own list stands behind `own` steps: list 0 is its own, list p + 1
-- the body of the after at place p of it
abbrev pub list_words : List ℕ → ℕ → ℕ → List ℕ
list_words w own zero = drop (own * 4) w
list_words w own (suc p) = body_words w (own + p)

-- a rule's part says these lists
unfoldable pub Says : List ℕ → ℕ → List FlatStep → Type 0
Says w own xs = (n : ℕ) → steps_in (list_words w own n) ≡ list_in xs n
