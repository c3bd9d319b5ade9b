-- What a caller sees of the specification's calls on words, case by case. Assumes nothing.
use mathlib.Core.Path.{◌≡◌, refl, sym, ap, ◌∙◌}
use mathlib.Core.Bool.{Bool, true, false, cond}
use mathlib.Core.List.{List, []}
use Rattle.std.specs.Prelude.{Option, None, Some, Result, Ok, Err, ⊤}
use Prim.Native.Nat.{ℕ, ◌-◌}
use native.Mathlib.Omega.{arith}
use lib.Dec.{eqb}
use lib.ListN.{length, replicate}
use borrow.Author.Tests.{eq-eqb}
use Rattle.model.specs.State.{Store}
use Rattle.model.specs.Refusals.{refusal_code, refusal_number}
use Rattle.model.specs.declared.Refusal.{Refusal}
use Rattle.model.specs.declared.Refusal.TheVariants.{StoreLength}
use Rattle.model.specs.Store.{read, write}
use Rattle.model.specs.Outcome.{Outcome}
use Rattle.model.specs.Calls as model
use Rattle.model.specs.Calls.{Call, new, counters, done, refused, enabled, counted, fresh, counters_of, call}
use Rattle.model.specs.Answers as answers
use Rattle.model.specs.OnWords.{result, store_refusal, outcome_words_of, effect_words_of, store_after, on_store, new_on, call_on}
use Rattle.model.proofs.RefusalLaws.{refusal-some}
use Rattle.engine.specs.Seen.{seen, refusal_of}
use Rattle.engine.specs.Answers.{values_of, no_values, enabled_values, counter_values, shown}

-- NEW -----------------------------------------------------------------------------------------------------------------------------------
new-case : (t : ℕ) (w : List ℕ) (b : Bool) → eqb (length w) 16384 ≡ b → call_on (new t) w ≡ cond b (result (new t) done (write (fresh t))) (result (new t) (refused 1) w)
unfolding call_on new_on
new-case t w b e = ap (λ (x : Bool). cond x (result (new t) done (write (fresh t))) (result (new t) (refused 1) w)) e

pub new-refused : (t : ℕ) (w : List ℕ) → eqb (length w) 16384 ≡ false → shown no_values (Err StoreLength) w [] [] ≡ seen (call_on (new t) w)
unfolding shown seen result answers.number_of answers.values_of answers.outcome_store answers.effect_store answers.outcome_words answers.effect_words
new-refused t w e = sym (ap seen (new-case t w false e))

pub new-done : (t : ℕ) (w w' : List ℕ) → length w ≡ 16384 → w' ≡ write (fresh t) → shown no_values (Ok tt) w' [] [] ≡ seen (call_on (new t) w)
unfolding shown seen result answers.number_of answers.values_of answers.outcome_store answers.effect_store answers.outcome_words answers.effect_words
new-done t w w' l e = ap (λ (x : List ℕ). shown no_values (Ok tt) x [] []) e ∙ sym (ap seen (new-case t w true (eq-eqb (length w) 16384 l)))

-- A CALL ON A STORE THAT READS ------------------------------------------------------------------------------------------------------------
-- the code's answer has the number and the values of the specification's
pub record Same {A : Type 0} (f : A → List ℕ) (r : Result A Refusal) (a : model.Answer) : Type 0 where
  pub number : refusal_number r ≡ answers.number_of a
  pub values : values_of f r ≡ answers.values_of a

pub same-done : (x : ⊤) → Same no_values (Ok x) done
unfolding answers.number_of answers.values_of
same-done x = record { number = refl; values = refl }

pub same-refused : {A : Type 0} (f : A → List ℕ) (r : Refusal) (n : ℕ) → refusal_code r ≡ n → Same f (Err r) (refused n)
unfolding answers.number_of answers.values_of
same-refused f r n e = record { number = e; values = refl }

pub same-enabled : (b : Bool) → Same enabled_values (Ok b) (enabled b)
unfolding answers.number_of answers.values_of
same-enabled b = record { number = refl; values = refl }

same-counted : (cs : List ℕ) → Same counter_values (Ok cs) (counted cs)
unfolding answers.number_of answers.values_of
same-counted cs = record { number = refl; values = refl }

module _ {A : Type 0} (f : A → List ℕ) where
  pub result-seen : (c : Call) (r : Result A Refusal) (a : model.Answer) (w w' os es : List ℕ) → Same f r a → w' ≡ w
      → os ≡ answers.outcome_store (outcome_words_of c) a → es ≡ answers.effect_store (effect_words_of c) a → shown f r w' os es ≡ seen (result c a w)
  unfolding shown seen result
  result-seen c r a w w' os es h e o g = λ i. record { number = h.number i; values = h.values i; store = e i; outcomes = o i; effects = g i }

-- the words that a call lends for outcomes and effects are 0 where it has none
pub no-outcomes : (n : ℕ) (a : model.Answer) → answers.outcomes_in a ≡ [] → replicate n 0 ≡ answers.outcome_store n a
unfolding answers.outcome_store answers.outcome_words
no-outcomes n a e = let z : n ≡ n - 0 = omega arith in ap (λ (m : ℕ). replicate m 0) z ∙ sym (ap (λ (os : List Outcome). answers.lent n (answers.outcome_words 0 os)) e)

pub no-effects : (n : ℕ) (a : model.Answer) → answers.outcomes_in a ≡ [] → replicate n 0 ≡ answers.effect_store n a
unfolding answers.effect_store answers.effect_words
no-effects n a e = let z : n ≡ n - 0 = omega arith in ap (λ (m : ℕ). replicate m 0) z ∙ sym (ap (λ (os : List Outcome). answers.lent n (answers.effect_words os)) e)

-- the call takes the store as it reads: every call but `new`
abbrev pub OnStore : Call → List ℕ → Type 0
OnStore c w = call_on c w ≡ on_store c (read w) w

pub call-seen : {A : Type 0} (f : A → List ℕ) (c : Call) (w w' os es : List ℕ) (s : Store) (r : Result A Refusal) (a : model.Answer) → OnStore c w → read w ≡ Some s → (call c s).answer ≡ a → Same f r a
    → w' ≡ store_after a (call c s).store w → os ≡ answers.outcome_store (outcome_words_of c) a → es ≡ answers.effect_store (effect_words_of c) a
    → shown f r w' os es ≡ seen (call_on c w)
call-seen f c w w' os es s r a o e q h n g k =
    result-seen f c r a (store_after a (call c s).store w) w' os es h n g k
    ∙ ap (λ (x : model.Answer). seen (result c x (store_after x (call c s).store w))) (sym q)
    ∙ ap seen (ap (λ (x : Option Store). on_store c x w) (sym e) ∙ sym o)

-- WORDS THAT ARE NO STORE ------------------------------------------------------------------------------------------------------------------

module _ (w : List ℕ) (r : Refusal) (q : refusal_code r ≡ refusal_of (read w) w) where
  record NoStore : Type 0 where
    is : read w ≡ None
    number : refusal_code r ≡ store_refusal w

  no_store : NoStore
  no_store = go (read w) refl q
    where
      go : (o : Option Store) → read w ≡ o → refusal_code r ≡ refusal_of o w → NoStore
      go None e z = record { is = e; number = z }
      go (Some s) e z = absurd (refusal-some r z)

  pub refused-seen : {A : Type 0} (f : A → List ℕ) (c : Call) (os es : List ℕ) → OnStore c w → os ≡ replicate (outcome_words_of c) 0 → es ≡ replicate (effect_words_of c) 0
      → shown f (Err r) w os es ≡ seen (call_on c w)
  refused-seen f c os es o g h =
      let k = no_store in
      let n = store_refusal w in
      let a = refused n in
      result-seen f c (Err r) a w w os es (same-refused f r n k.number) refl (g ∙ no-outcomes (outcome_words_of c) a refl) (h ∙ no-effects (effect_words_of c) a refl)
      ∙ ap seen (ap (λ (x : Option Store). on_store c x w) (sym k.is) ∙ sym o)

-- COUNTERS --------------------------------------------------------------------------------------------------------------------------------
pub counters-on : (w : List ℕ) → OnStore counters w
unfolding call_on
counters-on w = refl

counters-call : (s : Store) → (call counters s).answer ≡ counted (counters_of s)
unfolding call
counters-call s = refl

counters-store : (s : Store) → (call counters s).store ≡ s
unfolding call
counters-store s = refl

pub counters-seen : (w values : List ℕ) (s : Store) → read w ≡ Some s → write s ≡ w → values ≡ counters_of s → shown counter_values (Ok values) w [] [] ≡ seen (call_on counters w)
counters-seen w values s e q v =
    let a = counted values in
    call-seen counter_values counters w w [] [] s (Ok values) a (counters-on w) e (counters-call s ∙ ap counted (sym v)) (same-counted values)
    (sym q ∙ sym (ap write (counters-store s))) (no-outcomes 0 a refl) (no-effects 0 a refl)
