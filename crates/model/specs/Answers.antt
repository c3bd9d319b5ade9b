-- Outcomes and effects as words in the lent stores: document 01, "Outcomes and effects".
use Rattle.std.specs.Prelude.{ℕ, ◌+◌, ◌-◌, cond, List, [], ◌∷◌, ◌++◌, length, replicate}
use Rattle.std.specs.Prelude.{None, Some}
use Rattle.words.specs.Pairs.{low_of, high_of}
use Rattle.model.specs.Calls.{Answer, done, refused, enabled, handled, due, counted, Outcome, Effect, effects_of}

-- rule, dry, trigger, reason, first effect, count, number
unfoldable pub outcome_words : ℕ → List Outcome → List ℕ
outcome_words first [] = []
outcome_words first (o ∷ os) =
    let n = length o.effects in
    o.rule ∷ o.dry ∷ o.trigger ∷ o.reason ∷ first ∷ n ∷ low_of o.number ∷ high_of o.number ∷ outcome_words (first + n) os

-- kind, four words of fields
unfoldable pub words_of_effects : List Effect → List ℕ
words_of_effects [] = []
words_of_effects (x ∷ xs) = x.kind ∷ x.a ∷ x.b ∷ x.c ∷ x.d ∷ words_of_effects xs

unfoldable pub effect_words : List Outcome → List ℕ
effect_words [] = []
effect_words (o ∷ os) = words_of_effects o.effects ++ effect_words os

-- words past the answer are 0
abbrev pub lent : ℕ → List ℕ → List ℕ
lent n ws = ws ++ replicate (n - length ws) 0

-- the lent stores of n words after a tick or run; after a refusal they are 0
abbrev pub outcomes_in : Answer → List Outcome
outcomes_in done = []
outcomes_in (refused k) = []
outcomes_in (enabled b) = []
outcomes_in (handled os) = os
outcomes_in (due t) = []
outcomes_in (counted cs) = []

unfoldable pub outcome_store : ℕ → Answer → List ℕ
outcome_store n a = lent n (outcome_words 0 (outcomes_in a))

unfoldable pub effect_store : ℕ → Answer → List ℕ
effect_store n a = lent n (effect_words (outcomes_in a))

-- document 01's number of an answer: that of the refusal, 0 for none
unfoldable pub number_of : Answer → ℕ
number_of done = 0
number_of (refused n) = n
number_of (enabled b) = 0
number_of (handled os) = 0
number_of (due t) = 0
number_of (counted cs) = 0

-- its values, as words: yes 1 or no 0; the numbers of outcomes and effects; a mark and a time; the 16 words of the counters. "a refusal returns its
-- number only"
unfoldable pub values_of : Answer → List ℕ
values_of done = []
values_of (refused n) = []
values_of (enabled b) = cond b 1 0 ∷ []
values_of (handled os) = length os ∷ effects_of os ∷ []
values_of (due None) = 0 ∷ 0 ∷ 0 ∷ []
values_of (due (Some t)) = 1 ∷ low_of t ∷ high_of t ∷ []
values_of (counted cs) = cs
