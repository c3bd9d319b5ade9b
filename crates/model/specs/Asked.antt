-- What is seen of a call that asks: it is given words, answers, and changes no store of a house.
use Rattle.std.specs.Prelude.{List, [], ℕ, zero, suc, replicate, Result, Ok, Err}
use Rattle.std.specs.Prelude.{Option, None, Some}
use Rattle.model.specs.declared.Refusal.{Refusal}
use Rattle.model.specs.Refusals.{refusal_code}
use Rattle.model.specs.State.{Store}
use Rattle.model.specs.Store.{read}
use Rattle.model.specs.OnWords.{store_refusal}

-- the number of its refusal, 0 for none; the values of its answer; the words of a store that it is lent to answer into
pub record Asked : Type 0 where
  pub number : ℕ
  pub values : List ℕ
  pub lent : List ℕ

-- a refusal returns its number only; n lent words are 0
unfoldable pub declined : ℕ → ℕ → Asked
declined n number = record { number = number; values = []; lent = replicate n 0 }

-- what code that answers a refusal or a value shows, with the lent words after it
unfoldable pub shown_result : {A : Type 0} → (A → List ℕ) → Result A Refusal → List ℕ → Asked
shown_result values (Ok a) lent = record { number = 0; values = values a; lent = lent }
shown_result values (Err r) lent = record { number = refusal_code r; values = []; lent = lent }

-- A CALL WITH A STORE ------------------------------------------------------------------------------------------------------------------
-- the store, and what else is given, are checked, an answer is given, and nothing changes
abbrev pub asked_of : Option Store → List ℕ → ℕ → ℕ → (Store → Asked) → Asked
asked_of None w other n answer = declined n (store_refusal w)
asked_of (Some s) w zero n answer = answer s
asked_of (Some s) w (suc other) n answer = declined n (suc other)

-- on the words w, lent n words, that answers from what a store holds; `other` is the refusal of what else is given, 0 where that is accepted
unfoldable pub asked : List ℕ → ℕ → ℕ → (Store → Asked) → Asked
asked w other n answer = asked_of (read w) w other n answer
