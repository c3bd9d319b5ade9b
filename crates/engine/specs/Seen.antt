-- What a call shows its caller: document 01's number and values of the answer, and the words of the lent stores after the call.
use Rattle.std.specs.Prelude.{List, ℕ}
use Rattle.model.specs.Answers.{number_of, values_of}
use Rattle.model.specs.OnWords.{Result}
pub use Rattle.store.specs.Refused.{refusal_of}

pub record Seen : Type 0 where
  pub number : ℕ
  pub values : List ℕ
  pub store : List ℕ
  pub outcomes : List ℕ
  pub effects : List ℕ

unfoldable pub seen : Result → Seen
seen r =
    record { number = number_of r.answer; values = values_of r.answer; store = r.store; outcomes = r.outcomes; effects = r.effects }
