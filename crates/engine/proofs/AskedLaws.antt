-- Calls that ask: the checks, and the two of the eight that do. Assumes nothing.
use mathlib.Core.Path.{◌≡◌, refl, sym, ap, ◌∙◌}
use mathlib.Core.Bool.{true}
use mathlib.Core.List.{List, []}
use Rattle.std.specs.Prelude.{Option, None, Some}
use Prim.Native.Nat.{ℕ, zero, suc}
use Rattle.model.specs.Lists.{present}
use Rattle.model.specs.State.{Store}
use Rattle.model.specs.Store.{read, write}
use Rattle.model.specs.Calls as model
use Rattle.model.specs.Calls.{Call, done, refused, enabled, handled, due, counted, answered, call}
use Rattle.model.specs.Answers as answers
use Rattle.model.specs.OnWords.{result, store_refusal, store_after, outcome_words_of, effect_words_of, on_store, call_on}
use Rattle.model.proofs.StoreLaws.{write_read}
use Rattle.engine.specs.Seen.{Seen, seen, refusal_of}
use Rattle.std.specs.Prelude.{Err, replicate}
use Rattle.model.specs.Refusals.{refusal_code}
use Rattle.model.specs.declared.Refusal.{Refusal}
use Rattle.model.proofs.RefusalLaws.{refusal-some}
use Rattle.model.specs.Asked.{Asked, declined, shown_result, asked_of, asked}
use Rattle.engine.specs.Asked.{lowest_of}
use Rattle.engine.proofs.Seeing.{OnStore}

-- THE CHECKS ----------------------------------------------------------------------------------------------------------------------------
-- the refusal of words and of what else is given is that of the words, or the other one
pub lowest-cases : {P : Type 0} (w : List ℕ) (n other : ℕ) → n ≡ lowest_of (read w) w other → (n ≡ refusal_of (read w) w → P) → (present (read w) ≡ true → n ≡ other → P) → P
lowest-cases {P = P} w n other q f g = go (read w) refl q
  where
    go : (o : Option Store) → read w ≡ o → n ≡ lowest_of o w other → P
    go None e z = f (z ∙ sym (ap (λ (o : Option Store). refusal_of o w) e))
    go (Some s) e z = g (ap present e) z

module _ (w : List ℕ) (n other : ℕ) (q : n ≡ lowest_of (read w) w other) where
  pub asked-declined : (n ≡ 0 → ⊥) → (k : ℕ) (answer : Store → Asked) → asked w other k answer ≡ declined k n
  unfolding asked
  asked-declined z k answer = go (read w) other q
    where
      go : (o : Option Store) (m : ℕ) → n ≡ lowest_of o w m → asked_of o w m k answer ≡ declined k n
      go None m e = ap (declined k) (sym e)
      go (Some s) zero e = absurd (z e)
      go (Some s) (suc m) e = ap (declined k) (sym e)

pub asked-refused : {A : Type 0} (f : A → List ℕ) (w : List ℕ) (r : Refusal) (other k : ℕ) (answer : Store → Asked) (lent : List ℕ) → lent ≡ replicate k 0
    → refusal_code r ≡ lowest_of (read w) w other → shown_result f (Err r) lent ≡ asked w other k answer
unfolding shown_result declined
asked-refused f w r other k answer lent e q =
    (λ i. record { number = refusal_code r; values = []; lent = e i }) ∙ sym (asked-declined w (refusal_code r) other q (refusal-some r) k answer)

pub asked-answered : (w : List ℕ) (s : Store) (k other : ℕ) (answer : Store → Asked) → read w ≡ Some s → other ≡ 0 → asked w other k answer ≡ answer s
unfolding asked
asked-answered w s k other answer e z = ap (λ (o : Option Store). asked_of o w other k answer) e ∙ ap (λ (m : ℕ). asked_of (Some s) w m k answer) z

-- OF THE EIGHT CALLS --------------------------------------------------------------------------------------------------------------------
unchanged : (a : model.Answer) (s : Store) (w : List ℕ) → write s ≡ w → store_after a s w ≡ w
unchanged done s w e = e
unchanged (refused n) s w e = refl
unchanged (enabled b) s w e = e
unchanged (handled os) s w e = e
unchanged (due t) s w e = e
unchanged (counted cs) s w e = e

-- what is seen of a call that asks as of one of the eight calls: the store's words stay, and there are no outcomes
abbrev pub seen_asked : Asked → List ℕ → Seen
seen_asked a w = record { number = a.number; values = a.values; store = w; outcomes = []; effects = [] }

-- a call whose answer has no outcomes, and which is lent nothing for them
module _ (c : Call) (ow : outcome_words_of c ≡ 0) (ew : effect_words_of c ≡ 0) where
  answer-seen : (a : model.Answer) (w : List ℕ) → answers.outcomes_in a ≡ []
      → seen (result c a w) ≡ record { number = answers.number_of a; values = answers.values_of a; store = w; outcomes = []; effects = [] }
  unfolding seen result answers.outcome_store answers.effect_store answers.outcome_words answers.effect_words
  answer-seen a w e =
      let os : answers.outcome_store (outcome_words_of c) a ≡ [] = ap (λ (n : ℕ). answers.outcome_store n a) ow ∙ ap (λ os. answers.lent 0 (answers.outcome_words 0 os)) e in
      let es : answers.effect_store (effect_words_of c) a ≡ [] = ap (λ (n : ℕ). answers.effect_store n a) ew ∙ ap (λ os. answers.lent 0 (answers.effect_words os)) e in
      λ i. record { number = answers.number_of a; values = answers.values_of a; store = w; outcomes = os i; effects = es i }

  module _ (a : Store → model.Answer) (is : (s : Store) → call c s ≡ answered (a s) s) (silent : (s : Store) → answers.outcomes_in (a s) ≡ []) where
    abbrev pub told : Store → Asked
    told s = record { number = answers.number_of (a s); values = answers.values_of (a s); lent = [] }

    pub call_asks : (w : List ℕ) → OnStore c w → seen (call_on c w) ≡ seen_asked (asked w 0 0 told) w
    unfolding asked declined answers.number_of answers.values_of
    call_asks w on = ap seen on ∙ go (read w) refl
      where
        go : (o : Option Store) → read w ≡ o → seen (on_store c o w) ≡ seen_asked (asked_of o w 0 0 told) w
        go None e = answer-seen (refused (store_refusal w)) w refl
        go (Some s) e =
            ap (λ (d : model.Done). seen (result c d.answer (store_after d.answer d.store w))) (is s)
            ∙ ap (λ (x : List ℕ). seen (result c (a s) x)) (unchanged (a s) s w (write_read w s e).written)
            ∙ answer-seen (a s) w (silent s)
