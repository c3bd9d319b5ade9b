-- What a C caller sees of the list of telegrams. Assumes nothing.
use mathlib.Core.Path.{◌≡◌, ap, ◌∙◌}
use mathlib.Core.List.{List}
use Prim.Native.Nat.{ℕ}
use Rattle.model.specs.Telegrams as model
use Rattle.std.specs.Prelude.{Result}
use Rattle.model.specs.declared.Refusal.{Refusal}
use Rattle.model.specs.Refusals.{refusal_number}
use Rattle.engine.specs.Answers.{values_of}
use Rattle.cerambiu.specs.Called.{lent_answer}
use Rattle.cerambiu.specs.Told.{tells, told, count_values, sending}

module _ (n room : ℕ) (ws answer list : List ℕ) (a : Result ℕ Refusal) (number : ℕ) where
  pub sent : a ≡ model.answer room ws → list ≡ model.kept_store room ws → number ≡ refusal_number a → answer ≡ lent_answer n (values_of count_values a)
      → tells number answer list ≡ told n (sending room ws)
  unfolding told sending
  sent e s m q =
      (λ i. tells (m i) (q i) (s i))
      ∙ ap (λ (b : Result ℕ Refusal). tells (refusal_number b) (lent_answer n (values_of count_values b)) (model.kept_store room ws)) e
