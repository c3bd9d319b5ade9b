-- What the parts of the reader find.
use Rattle.std.specs.Prelude.{ℕ, ◌+◌, ◌*◌, ◌<◌, ◌≡◌, Bool, false, cond, ◌&&◌, List, [], ◌∷◌, ◌/◌, ◌%◌, leb, length, get_or}
use Rattle.std.specs.Prelude.{Option, None, Some}
use Rattle.std.proofs.lemmas.List.Edits.{sets}
use Rattle.model.specs.Lists.{keep, up_from}
use Rattle.model.specs.Field.{unless}
use Rattle.model.specs.Crontab.{of_the_form, every_date}

-- a number, if 32 bits hold it
abbrev pub word_sized : Option ℕ → Option ℕ
word_sized None = None
word_sized (Some n) = cond (leb n 4294967295) (Some n) None

-- triggers for the minutes ts, written one behind the other from place n on
abbrev pub written : ℕ → List ℕ → ℕ → List ℕ → List ℕ
written ds w n [] = w
written ds w n (t ∷ ts) = written ds (sets w (8 * n) (2 ∷ t / 60 ∷ t % 60 ∷ ds ∷ [])) (n + 1) ts

-- the numbers below n that a test holds of are marked in an array of n
pub record Marked (f : ℕ → Bool) (n : ℕ) (a : List Bool) : Type 0 where
  pub long : length a ≡ n
  pub same : (v : ℕ) → v < n → get_or a v false ≡ f v

-- minute t of a day is marked, and the marked minutes of a day
abbrev pub marked : List Bool → List Bool → ℕ → Bool
marked hours minutes t = get_or hours (t / 60) false && get_or minutes (t % 60) false

unfoldable pub marked_minutes : List Bool → List Bool → List ℕ
marked_minutes hours minutes = keep (marked hours minutes) (up_from 0 1440)

-- 50 and 51; 0 for neither
unfoldable pub form_refusal : List ℕ → ℕ → ℕ
form_refusal line sunday = unless (of_the_form line sunday) 50 (unless (every_date line) 51 0)
