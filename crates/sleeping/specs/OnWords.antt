-- Sleeping of the calls on words: what a caller is given, and which words of the store may differ.
use Rattle.std.specs.Prelude.{◌≡◌, ℕ, ◌+◌, Bool, false, ◌&&◌, ◌||◌, List, [], ◌∷◌, map, leb, ltb, length, get_or}
use Rattle.model.specs.State.{Store}
use Rattle.model.specs.Calls.{Call, Answer, handled}
use Rattle.model.specs.OnWords.{Result, call_on}
use Rattle.ledger.specs.OnWords.{answers_on, words_after}
use Rattle.sleeping.specs.Sleeping.{Entry, all_calls, given_calls, at_given, at_added, Sleeping}

-- what a call gives its caller: the answer, and every word of the lent outcome and effect stores
pub record Returned : Type 0 where
  pub answer : Answer
  pub outcomes : List ℕ
  pub effects : List ℕ

unfoldable pub returned_by : Result → Returned
returned_by r = record { answer = r.answer; outcomes = r.outcomes; effects = r.effects }

unfoldable pub returned_on : List ℕ → List Call → List Returned
returned_on w [] = []
returned_on w (c ∷ cs) = returned_by (call_on c w) ∷ returned_on (call_on c w).store cs

-- where the previous week minute stands: behind the last time, the set and the parts in front of it (docs/STORE.md)
abbrev pub minute_at : ℕ
minute_at = 13721

-- the words of the last time and of the previous week minute
unfoldable pub is_time_word : ℕ → Bool
is_time_word i = ltb i 2 || (leb minute_at i && ltb i (2 + minute_at))

-- the store s is what the words w say
pub record SleepingOnWords (w : List ℕ) (s : Store) (es : List Entry) : Type 0 where
  -- the given calls give what they give without the added ticks, in order
  pub same-answers : at_given es (returned_on w (all_calls es)) ≡ returned_on w (given_calls es)
  -- each added tick answers no outcomes
  pub no-outcomes : at_added es (answers_on w (all_calls es)) ≡ at_added es (map (λ e. handled []) es)
  -- the words at the end differ at most in those of the last time and the previous week minute
  pub long : length (words_after w (all_calls es)) ≡ 16384
  pub long-without : length (words_after w (given_calls es)) ≡ 16384
  pub words : (i : ℕ) → is_time_word i ≡ false → get_or (words_after w (all_calls es)) i 0 ≡ get_or (words_after w (given_calls es)) i 0
  -- and all holds of the stores that they say
  pub stores : Sleeping s es
