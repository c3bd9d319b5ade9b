-- What a C caller sees, from what a caller of `engine` sees. Assumes nothing.
use mathlib.Core.Path.{◌≡◌, refl, ap, ◌∙◌}
use mathlib.Core.List.{List, []}
use Prim.Native.Nat.{ℕ}
use Rattle.model.specs.OnWords as OnWords
use Rattle.engine.specs.Seen.{Seen, seen}
use Rattle.engine.specs.Answers.{values_of, shown}
use Rattle.std.specs.Prelude.{Result, Ok, Err}
use Rattle.model.specs.declared.Refusal.{Refusal}
use Rattle.model.specs.Refusals.{refusal_number}
use Rattle.model.specs.Asked.{Asked, shown_result}
use Rattle.cerambiu.specs.Called.{Called, called, lent_answer, answered}
use Rattle.cerambiu.specs.Told as Told
use Rattle.cerambiu.specs.Told.{tells}

-- THE CALLS ------------------------------------------------------------------------------------------------------------------------------
-- what engine shows, with n words lent for the values
viewed : ℕ → Seen → Called
viewed n s = called s.number (lent_answer n s.values) s.store s.outcomes s.effects

pub told : {A : Type 0} (f : A → List ℕ) (n : ℕ) (r : OnWords.Result) (a : Result A Refusal) (number : ℕ) (answer w os es : List ℕ) → shown f a w os es ≡ seen r
    → number ≡ refusal_number a → answer ≡ lent_answer n (values_of f a) → called number answer w os es ≡ answered n r
unfolding viewed shown seen answered
told f n r a number answer w os es e m v = (λ i. called (m i) (v i) w os es) ∙ ap (viewed n) e

-- without values
pub told_none : {A : Type 0} (f : A → List ℕ) (r : OnWords.Result) (a : Result A Refusal) (number : ℕ) (w os es : List ℕ) → shown f a w os es ≡ seen r
    → number ≡ refusal_number a → called number [] w os es ≡ answered 0 r
unfolding lent_answer
told_none f r a number w os es e m = told f 0 r a number [] w os es e m refl

-- A CALL THAT ASKS -----------------------------------------------------------------------------------------------------------------------
pub result-told : {A : Type 0} (f : A → List ℕ) (n : ℕ) (asked : Asked) (a : Result A Refusal) (number : ℕ) (answer lent : List ℕ) → shown_result f a lent ≡ asked
    → number ≡ refusal_number a → answer ≡ lent_answer n (values_of f a) → tells number answer lent ≡ Told.told n asked
unfolding shown_result Told.told
result-told f n asked (Ok x) number answer lent e m v = (λ i. tells (m i) (v i) lent) ∙ ap (Told.told n) e
result-told f n asked (Err r) number answer lent e m v = (λ i. tells (m i) (v i) lent) ∙ ap (Told.told n) e
