-- The answers of evaluation as words. Assumes nothing.
use mathlib.Core.Path.{◌≡◌, refl, ap, ◌∙◌}
use mathlib.Core.Bool.{Bool, true, false}
use mathlib.Core.List.{List, map}
use Rattle.std.specs.Prelude.{Option, None, Some}
use Prim.Native.Nat.{ℕ}
use lib.IntN.{ℤ}
use mir.Syntax.{w64}
use mir.Val.{SFits, to_z, of_z}
use mir.Facts.{to_z-of_z}
use Rattle.words.specs.Signed.{bits64}
use Rattle.model.specs.Image.{size_of}
use Rattle.model.specs.Rows.{rules}
use Rattle.model.specs.Flat.{Flattened, flatten_rules, set_of}
use Rattle.model.specs.Store.{volatile_in}
use Rattle.model.specs.Eval.{condition_at, value_at}
use Rattle.model.specs.State as model
use Rattle.model.specs.Steps.{FlatStep}
use Rattle.state.specs.Meaning.{AllNumbered, meaning}
use Rattle.store.specs.Volatile.{changing_in}
use Rattle.eval.specs.Answers.{env_of, env_in}
use Rattle.exports.specs.Answers.{given, rest_in, verdict_code, condition_answer, marked, number_words, value_answer}

pub none-words : (r : Option ℤ) (w : List ℕ) → r ≡ None → w ≡ marked 2 0 → w ≡ number_words r
none-words r w e h = rw e h

pub some_words : (r : Option ℤ) (w : List ℕ) (z : ℤ) (b : ℕ) → SFits w64 z → r ≡ Some z → b ≡ bits64 (to_z w64 (of_z w64 z)) → w ≡ marked 1 b → w ≡ number_words r
some_words r w z b fits e f h = rw e (h ∙ ap (marked 1) (f ∙ ap bits64 (to_z-of_z fits)))

-- the lists of the image's set
abbrev flats : List ℕ → List (List FlatStep)
flats image = map (λ (f : Flattened). f.steps) (flatten_rules image)

module _ (snapshot image store : List ℕ) (i : ℕ) where
  pub no-condition : given snapshot image store ≡ false → 3 ≡ condition_answer snapshot image store i
  unfolding condition_answer
  no-condition g = rw g refl

  pub no_value : given snapshot image store ≡ false → marked 3 0 ≡ value_answer snapshot image store i
  unfolding value_answer
  no_value g = rw g refl

  module _ (g : given snapshot image store ≡ true) (v : List ℕ) (m : AllNumbered v (volatile_in (size_of image rules) (changing_in store))) where
    pub condition-told : (r : Option Bool) (n : ℕ) → ((flat : List (List FlatStep)) → r ≡ condition_at (env_of snapshot image flat) (meaning v).rest i) → n ≡ verdict_code r → n ≡ condition_answer snapshot image store i
    unfolding condition_answer env_in rest_in set_of
    condition-told r n h e =
        rw g
        (e ∙ ap verdict_code (h (flats image))
        ∙ ap (λ (s : model.Volatile). verdict_code (condition_at (env_of snapshot image (flats image)) s.rest i)) m.says)

    pub value-told : (r : Option ℤ) (w : List ℕ) → ((flat : List (List FlatStep)) → r ≡ value_at (env_of snapshot image flat) (meaning v).rest i) → w ≡ number_words r → w ≡ value_answer snapshot image store i
    unfolding value_answer env_in rest_in set_of
    value-told r w h e =
        rw g
        (e ∙ ap number_words (h (flats image))
        ∙ ap (λ (s : model.Volatile). number_words (value_at (env_of snapshot image (flats image)) s.rest i)) m.says)
