-- What a C caller sees of a call: the number that it returns, and the words of all lent stores after it.
use Rattle.std.specs.Prelude.{List, ◌++◌, ℕ, take, replicate}
use Rattle.model.specs.Answers.{number_of, values_of}
use Rattle.model.specs.OnWords.{Result}

pub record Called : Type 0 where
  pub number : ℕ
  pub answer : List ℕ
  pub store : List ℕ
  pub outcomes : List ℕ
  pub effects : List ℕ

unfoldable pub called : ℕ → List ℕ → List ℕ → List ℕ → List ℕ → Called
called r a w os es = record { number = r; answer = a; store = w; outcomes = os; effects = es }

-- n words lent for values: values past their end are not written, and words behind the values are 0
unfoldable pub lent_answer : ℕ → List ℕ → List ℕ
lent_answer n values = take n (values ++ replicate n 0)

-- the specification's call, with n words lent for its values; a refusal has none
unfoldable pub answered : ℕ → Result → Called
answered n r = called (number_of r.answer) (lent_answer n (values_of r.answer)) r.store r.outcomes r.effects
