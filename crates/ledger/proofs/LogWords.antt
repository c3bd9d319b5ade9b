-- The lent outcome words tell all that a log needs.
use mathlib.Core.Path.{◌≡◌, refl, sym, ◌∙◌, ap, ap₂, subst}
use Prim.Native.Nat.{ℕ, ◌+◌, ◌≤◌}
use mathlib.Core.Bool.{cond}
use mathlib.Core.List.{List, [], ◌∷◌, ◌++◌, map}
use lib.Dec.{eqb}
use lib.ListN.{length}
use Rattle.words.proofs.Laws.{joined_words}
use Rattle.model.specs.Outcome.{Outcome}
use Rattle.model.specs.Calls.{Answer}
use Rattle.model.specs.Answers.{outcome_words, outcomes_in, outcome_store}
use Rattle.ledger.specs.Ledger.{is_refused}
use Rattle.ledger.specs.Effects.{only_if}
use Rattle.ledger.specs.Log.{Line, numbers_at, numbers_shown, effects_with, effects_shown, is_in, budget_after_call, budget_for, NoGap, bound, LogHolds}
use Rattle.ledger.specs.LogWords.{Shown, shown_in, shown_by, shown_on, numbers_on, sum_with, sum_over, budget_over, numbers_over, WordLogHolds, word_line}
use Rattle.ledger.proofs.ListLaws.{map-map}

words-tell : (first : ℕ) (os : List Outcome) (rest : List ℕ) → shown_in (length os) (outcome_words first os ++ rest) ≡ map shown_by os
unfolding outcome_words
words-tell first [] rest = refl
words-tell first (o ∷ os) rest =
    ap₂ (λ n xs. record { number = n; effects = length o.effects } ∷ xs) (joined_words o.number) (words-tell (first + length o.effects) os rest)

pub store-tells : (k : ℕ) (a : Answer) → shown_in (length (outcomes_in a)) (outcome_store k a) ≡ map shown_by (outcomes_in a)
unfolding outcome_store
store-tells k a = words-tell 0 (outcomes_in a) _

line-tells : (x : Line) → shown_on (word_line x) ≡ map shown_by (outcomes_in x.answer)
line-tells x = store-tells _ x.answer

numbers-tell : (x : Line) → numbers_on (word_line x) ≡ numbers_at x
numbers-tell x = ap (map (λ (o : Shown). o.number)) (line-tells x) ∙ map-map (λ (o : Shown). o.number) shown_by (outcomes_in x.answer)

sums-tell : (n : ℕ) (os : List Outcome) → sum_with n (map shown_by os) ≡ effects_with n os
sums-tell n [] = refl
sums-tell n (o ∷ os) = ap (λ r. only_if (eqb n o.number) (length o.effects) + r) (sums-tell n os)

sum_tells : (n : ℕ) (xs : List Line) → sum_over n (map word_line xs) ≡ effects_shown n xs
sum_tells n [] = refl
sum_tells n (x ∷ xs) = ap₂ ◌+◌ (ap (sum_with n) (line-tells x) ∙ sums-tell n (outcomes_in x.answer)) (sum_tells n xs)

budget-tells : (n b : ℕ) (xs : List Line) → budget_over n b (map word_line xs) ≡ budget_for n b xs
budget-tells n b [] = refl
budget-tells n b (x ∷ xs) = ap₂ (λ ns r. cond (is_in n ns) b r) (numbers-tell x) (budget-tells n (budget_after_call (is_refused x.answer) x.call b) xs)

all-numbers-tell : (xs : List Line) → numbers_over (map word_line xs) ≡ numbers_shown xs
all-numbers-tell [] = refl
all-numbers-tell (x ∷ xs) = ap₂ ◌++◌ (numbers-tell x) (all-numbers-tell xs)

pub word-log-holds : (xs : List Line) → LogHolds xs → WordLogHolds (map word_line xs)
word-log-holds xs h =
    record {
      bounded = λ n le. subst (λ k. k ≤ bound (budget_over n 0 (map word_line xs))) (sym (sum_tells n xs)) (subst (λ b. effects_shown n xs ≤ bound b) (sym (budget-tells n 0 xs)) (h.bounded n le));
      no_gap = subst (NoGap 0) (sym (all-numbers-tell xs)) h.no_gap;
    }
