-- What the functions of evaluation answer, as words.
use Rattle.std.specs.Prelude.{ℕ, Bool, true, false, cond, ◌&&◌, List, [], ◌∷◌, eqb, ℤ, length}
use Rattle.std.specs.Prelude.{Option, None, Some}
use Rattle.words.specs.Pairs.{low_of, high_of}
use Rattle.words.specs.Signed.{bits64}
use Rattle.model.specs.Lists.{all}
use Rattle.model.specs.Image.{size_of}
use Rattle.model.specs.Rows.{rules}
use Rattle.model.specs.Load.{image_refusal}
use Rattle.model.specs.Snapshot.{snapshot_refusal}
use Rattle.model.specs.State.{Rest}
use Rattle.model.specs.Eval.{condition_at, value_at}
use Rattle.model.specs.Layout.{parts_fit}
use Rattle.model.specs.Parts.{layout}
use Rattle.model.specs.Store.{text_short, volatile_in}
use Rattle.eval.specs.Answers.{env_in}
use Rattle.store.specs.Volatile.{changing_in}

-- words of a store that fit the layout, with texts that are numbers of one word
unfoldable pub readable : List ℕ → Bool
readable w = (eqb (length w) 16384 && parts_fit layout.parts w) && all text_short (changing_in w).variables

unfoldable pub given : List ℕ → List ℕ → List ℕ → Bool
given snapshot image store = eqb (snapshot_refusal snapshot) 0 && (eqb (image_refusal image) 0 && readable store)

-- what evaluation sees: `env_in` of eval, and what the store keeps for its rules
unfoldable pub rest_in : List ℕ → List ℕ → Rest
rest_in image store = (volatile_in (size_of image rules) (changing_in store)).rest

-- 0 no, 1 yes, 2 unevaluable; 3 where an argument is refused
abbrev pub verdict_code : Option Bool → ℕ
verdict_code None = 2
verdict_code (Some false) = 0
verdict_code (Some true) = 1

unfoldable pub condition_answer : List ℕ → List ℕ → List ℕ → ℕ → ℕ
condition_answer snapshot image store i =
    cond (given snapshot image store) (verdict_code (condition_at (env_in snapshot image) (rest_in image store) i)) 3

-- 1 and the number's two words; 2 unevaluable; 3 where an argument is refused
abbrev pub marked : ℕ → ℕ → List ℕ
marked m x = m ∷ low_of x ∷ high_of x ∷ []

abbrev pub number_words : Option ℤ → List ℕ
number_words None = marked 2 0
number_words (Some z) = marked 1 (bits64 z)

unfoldable pub value_answer : List ℕ → List ℕ → List ℕ → ℕ → List ℕ
value_answer snapshot image store i =
    cond (given snapshot image store) (number_words (value_at (env_in snapshot image) (rest_in image store) i)) (marked 3 0)
