-- What a C caller sees of a call that asks: the number that it returns, the words of the answer, and those of the store that it answers into.
use Rattle.std.specs.Prelude.{List, [], ◌∷◌, ℕ}
use Rattle.words.specs.Pairs.{low_of, high_of}
use Rattle.model.specs.Telegrams as telegrams
use Rattle.model.specs.Refusals.{refusal_number}
use Rattle.model.specs.Asked.{Asked}
use Rattle.engine.specs.Answers.{values_of}
use Rattle.cerambiu.specs.Called.{lent_answer}

pub record Told : Type 0 where
  pub number : ℕ
  pub answer : List ℕ
  pub lent : List ℕ

unfoldable pub tells : ℕ → List ℕ → List ℕ → Told
tells r a l = record { number = r; answer = a; lent = l }

-- with n words lent for the values
unfoldable pub told : ℕ → Asked → Told
told n a = tells a.number (lent_answer n a.values) a.lent

-- how many triggers, words or solar starts
abbrev pub one_value : ℕ → List ℕ
one_value n = n ∷ []

-- TELEGRAMS, which asks no store
-- the count in two words, low first
abbrev pub count_values : ℕ → List ℕ
count_values n = low_of n ∷ high_of n ∷ []

-- the kept list of the effects `ws` in `room` lent words
unfoldable pub sending : ℕ → List ℕ → Asked
sending room ws =
    let a = telegrams.answer room ws in
    record { number = refusal_number a; values = values_of count_values a; lent = telegrams.kept_store room ws }
