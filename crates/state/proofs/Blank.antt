-- Words that are 0 are those of a state in which nothing is kept. Assumes nothing.
use mathlib.Core.Path.{◌≡◌, refl}
use mathlib.Core.Logic.{inl}
use mathlib.Core.Bool.{Bool, true, false, ◌&&◌, false≢true}
use mathlib.Core.List.{List, [], ◌∷◌}
use Prim.Native.Nat.{ℕ, zero, suc, ◌<◌}
use native.Mathlib.Omega.{arith}
use lib.ListN.{length, get_or, replicate}
use Rattle.std.proofs.lemmas.Bool.{and_parts}
use Rattle.model.specs.Layout.{Part, fixed, part_fits, row_fits, rows_fit, zeros}
use Rattle.model.specs.Codec.{rows_at}
use Rattle.words.specs.Pairs.{joined}
use Rattle.state.specs.Cuts.{cut}
use Rattle.state.specs.Meaning.{state_parts, part_sizes, state_words, Sound}

abbrev pub fits_all : List Part → List (List ℕ) → Bool
fits_all [] ps = true
fits_all (q ∷ qs) [] = false
fits_all (q ∷ qs) (p ∷ ps) = part_fits q p && fits_all qs ps

pub fit_at : (qs : List Part) (ps : List (List ℕ)) → fits_all qs ps ≡ true → (t : ℕ) → t < length qs → part_fits (get_or qs t (fixed 0 [])) (get_or ps t []) ≡ true
fit_at [] ps f t h = absurd (omega arith)
fit_at (q ∷ qs) [] f t h = absurd (false≢true f)
fit_at (q ∷ qs) (p ∷ ps) f zero h = (and_parts (part_fits q p) (fits_all qs ps) f).0
fit_at (q ∷ qs) (p ∷ ps) f (suc t) h = fit_at qs ps (and_parts (part_fits q p) (fits_all qs ps) f).1 t (omega arith)

abbrev blanks : List (List ℕ)
blanks = cut part_sizes (replicate state_words 0)

all_fit : fits_all state_parts blanks ≡ true
unfolding cut row_fits rows_fit zeros
all_fit = refl

pub blank-sound : Sound (replicate state_words 0)
unfolding cut row_fits rows_fit zeros rows_at joined
blank-sound = record {
  long = refl;
  parts = record { fit = fit_at state_parts blanks all_fit; stored = omega arith; offsets = tt; texts = refl; bits = refl; activations = refl; positions = refl; beyond = inl refl };
}
