-- Document 01's number and values of the code's answers, and what a caller sees of them.
use Rattle.std.specs.Prelude.{cond, Bool, List, [], ◌∷◌, ℕ}
use Rattle.std.specs.Prelude.{Option, None, Some, Result, Ok, Err, ⊤}
use Rattle.words.specs.Pairs.{low_of, high_of}
use Rattle.model.specs.Refusals.{refusal_number}
use Rattle.model.specs.declared.Refusal.{Refusal}
use Rattle.activate.specs.declared.Handled.{Handled}
use Rattle.engine.specs.Seen.{Seen}

-- the values of an answer: those of what it gives, by f, and none of a refusal
abbrev pub values_of : {A : Type 0} → (A → List ℕ) → Result A Refusal → List ℕ
values_of f (Ok a) = f a
values_of f (Err r) = []

-- of new, load and unload: none
abbrev pub no_values : ⊤ → List ℕ
no_values t = []

-- yes 1 or no 0
abbrev pub enabled_values : Bool → List ℕ
enabled_values on = cond on 1 0 ∷ []

-- the numbers of outcomes and effects
abbrev pub handled_values : Handled → List ℕ
handled_values h = h.outcomes ∷ h.effects ∷ []

-- a mark and a time
abbrev pub due_values : Option ℕ → List ℕ
due_values None = 0 ∷ 0 ∷ 0 ∷ []
due_values (Some t) = 1 ∷ low_of t ∷ high_of t ∷ []

-- the 16 numbers
abbrev pub counter_values : List ℕ → List ℕ
counter_values cs = cs

-- the answer, with the words of the store, the outcomes and the effects after the call
unfoldable pub shown : {A : Type 0} → (A → List ℕ) → Result A Refusal → List ℕ → List ℕ → List ℕ → Seen
shown f r w os es = record { number = refusal_number r; values = values_of f r; store = w; outcomes = os; effects = es }
