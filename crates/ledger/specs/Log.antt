-- A log: the calls and their answers, nothing else. It begins with an accepted new and holds no other. What may be read off it: the effects of
-- a press are bounded, and no activation is missing.
use Rattle.std.specs.Prelude.{ℕ, suc, ◌+◌, ◌-◌, ◌*◌, ◌/◌, ◌≤◌, Bool, true, false, cond, ◌||◌, List, [], ◌∷◌, ◌++◌, map, ltb, eqb, length}
use Rattle.model.specs.Image as image
use Rattle.model.specs.Outcome.{Outcome}
use Rattle.model.specs.Answers.{outcomes_in}
use Rattle.model.specs.Calls.{Call, new, load, unload, enable, tick, run, deadline, counters, Answer}
use Rattle.ledger.specs.Ledger.{is_refused}
use Rattle.ledger.specs.Effects.{only_if, number_of}

-- a call and its answer
pub record Line : Type 0 where
  pub call : Call
  pub answer : Answer

abbrev pub lines : List Call → List Answer → List Line
lines [] as' = []
lines (c ∷ cs) [] = []
lines (c ∷ cs) (a ∷ as') = record { call = c; answer = a } ∷ lines cs as'

-- the numbers that are shown, in order
abbrev pub numbers_at : Line → List ℕ
numbers_at x = map number_of (outcomes_in x.answer)

abbrev pub numbers_shown : List Line → List ℕ
numbers_shown [] = []
numbers_shown (x ∷ xs) = numbers_at x ++ numbers_shown xs

-- how many effects are shown with number n
abbrev pub effects_with : ℕ → List Outcome → ℕ
effects_with n [] = 0
effects_with n (o ∷ os) = only_if (eqb n o.number) (length o.effects) + effects_with n os

abbrev pub effects_shown : ℕ → List Line → ℕ
effects_shown n [] = 0
effects_shown n (x ∷ xs) = effects_with n (outcomes_in x.answer) + effects_shown n xs

abbrev pub is_in : ℕ → List ℕ → Bool
is_in n [] = false
is_in n (k ∷ ks) = eqb n k || is_in n ks

-- the budget of the last load accepted: whether the call is refused, the call, and the budget before it
abbrev pub budget_after_call : Bool → Call → ℕ → ℕ
budget_after_call true c b = b
budget_after_call false (new t) b = b
budget_after_call false (load t img) b = image.budget img
budget_after_call false (unload t) b = b
budget_after_call false (enable r on) b = b
budget_after_call false (tick snap os es) b = b
budget_after_call false (run r dry snap os es) b = b
budget_after_call false deadline b = b
budget_after_call false counters b = b

-- .. before the first outcome that shows n
abbrev pub budget_for : ℕ → ℕ → List Line → ℕ
budget_for n b [] = b
budget_for n b (x ∷ xs) = cond (is_in n (numbers_at x)) b (budget_for n (budget_after_call (is_refused x.answer) x.call b) xs)

abbrev pub greater : ℕ → ℕ → ℕ
greater g n = cond (ltb g n) n g

-- each is at most one above the greatest before it
abbrev pub NoGap : ℕ → List ℕ → Type 0
NoGap g [] = Unit {0}
NoGap g (n ∷ ns) = (n ≤ suc g) × NoGap (greater g n) ns

abbrev pub greatest : ℕ → List ℕ → ℕ
greatest g [] = g
greatest g (n ∷ ns) = greatest (greater g n) ns

abbrev pub bound : ℕ → ℕ
bound b = b * (b - 1) / 2 + 1

-- THE CLAIM ----------------------------------------------------------------------------------------------------------------------
pub record LogHolds (xs : List Line) : Type 0 where
  -- the bound from the log
  pub bounded : (n : ℕ) → 1 ≤ n → effects_shown n xs ≤ bound (budget_for n 0 xs)
  -- no gap
  pub no_gap : NoGap 0 (numbers_shown xs)
