-- A log off the lent outcome words: of each call its arguments, whether it was refused, how many outcomes it says, and those words.
use Rattle.std.specs.Prelude.{ℕ, zero, suc, ◌+◌, ◌≤◌, Bool, cond, not, List, [], ◌∷◌, ◌++◌, map, eqb, length, get_or, drop}
use Rattle.words.specs.Pairs.{joined}
use Rattle.model.specs.Outcome.{Outcome}
use Rattle.model.specs.Answers.{outcomes_in, outcome_store}
use Rattle.model.specs.Calls.{Call, new, load, unload, enable, tick, run, deadline, counters}
use Rattle.model.specs.OnWords.{outcome_words_of}
use Rattle.ledger.specs.Ledger.{is_refused}
use Rattle.ledger.specs.Effects.{only_if}
use Rattle.ledger.specs.Log.{Line, is_in, budget_after_call, NoGap, bound}

pub record Shown : Type 0 where
  pub number : ℕ
  pub effects : ℕ

-- of k outcomes of 8 words
abbrev pub shown_in : ℕ → List ℕ → List Shown
shown_in zero w = []
shown_in (suc k) w = record { number = joined (get_or w 6 0) (get_or w 7 0); effects = get_or w 5 0 } ∷ shown_in k (drop 8 w)

abbrev pub shown_by : Outcome → Shown
shown_by o = record { number = o.number; effects = length o.effects }

pub record WordLine : Type 0 where
  pub call : Call
  pub refused : Bool
  pub count : ℕ
  pub words : List ℕ

abbrev pub shown_on : WordLine → List Shown
shown_on x = shown_in x.count x.words

abbrev pub numbers_on : WordLine → List ℕ
numbers_on x = map (λ (o : Shown). o.number) (shown_on x)

abbrev pub sum_with : ℕ → List Shown → ℕ
sum_with n [] = 0
sum_with n (o ∷ os) = only_if (eqb n o.number) o.effects + sum_with n os

abbrev pub sum_over : ℕ → List WordLine → ℕ
sum_over n [] = 0
sum_over n (x ∷ xs) = sum_with n (shown_on x) + sum_over n xs

abbrev pub budget_over : ℕ → ℕ → List WordLine → ℕ
budget_over n b [] = b
budget_over n b (x ∷ xs) = cond (is_in n (numbers_on x)) b (budget_over n (budget_after_call x.refused x.call b) xs)

abbrev pub numbers_over : List WordLine → List ℕ
numbers_over [] = []
numbers_over (x ∷ xs) = numbers_on x ++ numbers_over xs

pub record WordLogHolds (xs : List WordLine) : Type 0 where
  pub bounded : (n : ℕ) → 1 ≤ n → sum_over n xs ≤ bound (budget_over n 0 xs)
  pub no_gap : NoGap 0 (numbers_over xs)

-- what a call on words leaves of a line
abbrev pub word_line : Line → WordLine
word_line x = record { call = x.call; refused = is_refused x.answer; count = length (outcomes_in x.answer); words = outcome_store (outcome_words_of x.call) x.answer }

-- WHAT A CALLER SEES ---------------------------------------------------------------------------------------------------------------
-- how many outcomes the values of a call's answer say: those of a tick or a run begin with it
abbrev pub outcomes_said : Call → List ℕ → ℕ
outcomes_said (new t) vs = 0
outcomes_said (load t img) vs = 0
outcomes_said (unload t) vs = 0
outcomes_said (enable r on) vs = 0
outcomes_said (tick snap os es) vs = get_or vs 0 0
outcomes_said (run r dry snap os es) vs = get_or vs 0 0
outcomes_said deadline vs = 0
outcomes_said counters vs = 0

-- the line of a call, by the number and the values of its answer, and the lent outcome words after it
abbrev pub seen_line : Call → ℕ → List ℕ → List ℕ → WordLine
seen_line c number values words = record { call = c; refused = not (eqb number 0); count = outcomes_said c values; words = words }
