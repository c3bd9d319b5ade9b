-- A call on the words that are lent, as a C caller sees it, and what is printed for it. Assumes nothing.
use Rattle.std.proofs.Common.{◌≡◌, ℕ, ◌-◌, ◌≤◌, Bool, true, false, List, [], ◌++◌, length, take, drop, min, Result, Ok, Err, nat_le, refl, sym, ap, ◌∙◌, arith}
use mathlib.Core.Path.{subst}
use lib.ListN.{length-take, length-drop, take-append-drop, drop_of_length-le}
use lib.Seq.{take_all}
use borrow.Author.Tests.{eq-eqb, ne_eqb, leb-true, leb-false}
use Rattle.std.specs.Result.{MatchResult}
use Rattle.model.specs.Calls as Calls
use Rattle.model.specs.OnWords.{call_on}
use Rattle.model.specs.Asked.{Asked}
use Rattle.cerambiu.specs.Called.{Called, called, answered}
use Rattle.cerambiu.specs.Told.{tells, told}
use Rattle.script.specs.declared.calls.Call.{Call}
use Rattle.play.specs.declared.output.Output.{Output}
use Rattle.play.specs.declared.calls.Refused.{Refused}
use Rattle.play.specs.Printed.{name_of, answer_lines, handled_lines}
use Rattle.play.specs.Playing.{seen, calling, asking}
use Rattle.play.specs.Gathered.{Gathers, Makes}
use Rattle.play.proofs.Gathering.{gathers_none}

-- so many words of a store are lent, or all
module _ (size n : ℕ) (w : List ℕ) (l : n ≡ min size (length w)) where
  pub lent-first : take n w ≡ take size w
  lent-first = go (nat_le size (length w)) refl
    where
      go : (b : Bool) → nat_le size (length w) ≡ b → take n w ≡ take size w
      go true e = ap (λ (k : ℕ). take k w) (omega (arith, leb-true size (length w) e))
      go false e =
          let h = leb-false size (length w) e in
          take_all n w (omega arith) ∙ sym (take_all size w (omega arith))

  pub lent-rest : drop n w ≡ drop size w
  lent-rest = go (nat_le size (length w)) refl
    where
      go : (b : Bool) → nat_le size (length w) ≡ b → drop n w ≡ drop size w
      go true e = ap (λ (k : ℕ). drop k w) (omega (arith, leb-true size (length w) e))
      go false e =
          let h = leb-false size (length w) e in
          let a : length w ≤ n = omega arith in
          let b : length w ≤ size = omega arith in
          drop_of_length-le w a ∙ sym (drop_of_length-le w b)

  pub lent-behind : take (length w - n) (drop n w) ≡ drop size w
  lent-behind = take_all (length w - n) (drop n w) (omega (arith, length-drop n w)) ∙ lent-rest

  pub lent-length : length (take n w) ≡ min size (length w)
  lent-length = length-take n w ∙ omega arith

-- the words of a list in three parts, cut where it ends
module _ (a b n m : ℕ) (w : List ℕ) (l : n ≡ min a (length w)) where
  abbrev rest : List ℕ
  rest = take (length w - n) (drop n w)

  pub three-parts : m ≡ min b (length rest) → (f : List ℕ → List ℕ → List ℕ → Asked)
      → f (take n w) (take m rest) (take (length rest - m) (drop m rest)) ≡ f (take a w) (take b (drop a w)) (drop b (drop a w))
  three-parts k f =
      let r : rest ≡ drop a w = lent-behind a n w l in
      let h : m ≡ min b (length (drop a w)) = k ∙ ap (λ (z : List ℕ). min b (length z)) r in
      let x : take m rest ≡ take b (drop a w) = ap (take m) r ∙ lent-first b m (drop a w) h in
      let y : take (length rest - m) (drop m rest) ≡ drop b (drop a w) = ap (λ (z : List ℕ). take (length z - m) (drop m z)) r ∙ lent-behind b m (drop a w) h in
      λ i. f (lent-first a n w l i) (x i) (y i)

-- whether a call was refused, by its number
abbrev pub Accepts : ℕ → Result (Unit {0}) Refused → Type 0
Accepts number r = MatchResult r (λ _. number ≡ 0) (λ e. (number ≡ e.0) × (number ≡ 0 → ⊥))

module _ (c : Calls.Call) (size n : ℕ) (w : List ℕ) (l : n ≡ min size (length w)) where
  module _ (x : Called) (e : x ≡ answered 16 (call_on c (take n w))) where
    same : x ≡ seen c (take size w)
    unfolding seen
    same = e ∙ ap (λ z. answered 16 (call_on c z)) (lent-first size n w l)

    store-called : x.store ++ drop n w ≡ (calling size c w).store
    unfolding calling
    store-called = rw (lent-rest size n w l) (ap (λ z. z.store ++ drop size w) same)

    pub made : (o o' : Output) → x.number ≡ 0 → Gathers o (answer_lines c x) o' → Makes (calling size c w) (name_of c) (x.store ++ drop n w) o o' (Ok tt)
    unfolding calling
    made o o' z g = record { store = store-called; lines = rw (← same, eq-eqb x.number 0 z) g }

    pub refused : (o : Output) (r : Refused) → (x.number ≡ r.0) × (x.number ≡ 0 → ⊥) → Makes (calling size c w) (name_of c) (x.store ++ drop n w) o o (Err r)
    unfolding calling
    refused o r h = record { store = store-called; lines = (rw (← same, ne_eqb x.number 0 h.1, h.0) refl, refl) }

    -- the store was lent to be read
    read-only : x.store ≡ take n w → x.store ++ drop n w ≡ w
    read-only f = rw f (take-append-drop n w)

    pub made-reading : (o o' : Output) → x.store ≡ take n w → x.number ≡ 0 → Gathers o (answer_lines c x) o' → Makes (calling size c w) (name_of c) w o o' (Ok tt)
    made-reading o o' f z g = subst (λ (v : List ℕ). Makes (calling size c w) (name_of c) v o o' (Ok tt)) (read-only f) (made o o' z g)

    pub refused-reading : (o : Output) (r : Refused) → x.store ≡ take n w → (x.number ≡ r.0) × (x.number ≡ 0 → ⊥) → Makes (calling size c w) (name_of c) w o o (Err r)
    refused-reading o r f h = subst (λ (v : List ℕ). Makes (calling size c w) (name_of c) v o o (Err r)) (read-only f) (refused o r h)

  -- a call without values
  module _ (number : ℕ) (w' : List ℕ) (e : called number [] w' [] [] ≡ answered 0 (call_on c (take n w))) (silent : (y : Called) → answer_lines c y ≡ []) where
    with_values : Called
    with_values = answered 16 (call_on c (take n w))

    same_store : with_values.store ≡ w'
    unfolding answered called with_values
    same_store = sym (ap (λ z. z.store) e)

    same_number : with_values.number ≡ number
    unfolding answered called with_values
    same_number = sym (ap (λ z. z.number) e)

    pub made-silently : (r : Result (Unit {0}) Refused) → Accepts number r → (o : Output) → Makes (calling size c w) (name_of c) (w' ++ drop n w) o o r
    unfolding with_values
    made-silently (Ok tt) a o =
        rw (← same_store) (made with_values refl o o (same_number ∙ a) (rw (silent with_values) (gathers_none o)))
    made-silently (Err r) a o =
        rw (← same_store) (refused with_values refl o r (same_number ∙ a.0, λ z. a.1 (sym same_number ∙ z)))

-- a tick or a run: stores are lent for outcomes and effects
module _ (c : ℕ → ℕ → Calls.Call) (call : Call) (time size n : ℕ) (w : List ℕ) (l : n ≡ min size (length w)) where
  module _ (outcomes effects os es : ℕ) (ow ew : List ℕ) (lo : os ≡ min outcomes (length ow)) (le : es ≡ min effects (length ew)) where
    module _ (number : ℕ) (answer w' ow' ew' : List ℕ)
        (e : called number answer w' ow' ew' ≡ answered 16 (call_on (c (length (take os ow)) (length (take es ew))) (take n w))) where
      at-most : called number answer w' ow' ew' ≡ answered 16 (call_on (c (min outcomes (length ow)) (min effects (length ew))) (take n w))
      at-most =
          rw (lent-length outcomes os ow lo, lent-length effects es ew le) at e

      pub handled-refused : ((a b : ℕ) → name_of (c a b) ≡ call) → (o : Output) (r : Refused) → (number ≡ r.0) × (number ≡ 0 → ⊥)
          → Makes (calling size (c (min outcomes (length ow)) (min effects (length ew))) w) call (w' ++ drop n w) o o (Err r)
      unfolding called
      handled-refused names o r h =
          rw (← names (min outcomes (length ow)) (min effects (length ew)))
          (refused (c (min outcomes (length ow)) (min effects (length ew))) size n w l (called number answer w' ow' ew') at-most o r h)

      pub handled-made : ((a b : ℕ) → name_of (c a b) ≡ call)
          → ((a b : ℕ) (y : Called) → answer_lines (c a b) y ≡ handled_lines call time y.answer y.outcomes y.effects)
          → (o o' : Output) → number ≡ 0 → Gathers o (handled_lines call time answer ow' ew') o'
          → Makes (calling size (c (min outcomes (length ow)) (min effects (length ew))) w) call (w' ++ drop n w) o o' (Ok tt)
      unfolding called
      handled-made names lines o o' z g =
          let x = called number answer w' ow' ew' in
          rw (← names (min outcomes (length ow)) (min effects (length ew)))
          (made (c (min outcomes (length ow)) (min effects (length ew))) size n w l x at-most o o' z
          (rw (lines (min outcomes (length ow)) (min effects (length ew)) x) g))

-- a call that asks changes nothing
module _ (a : Asked) (call : Call) (lines : List ℕ → List ℕ → List ℕ) (number : ℕ) (answer lent : List ℕ) (e : tells number answer lent ≡ told 16 a) where
  pub asked : (w : List ℕ) (o o' : Output) → number ≡ 0 → Gathers o (lines answer lent) o' → Makes (asking call lines a w) call w o o' (Ok tt)
  unfolding tells
  asked w o o' z g = record { store = refl; lines = rw (← e, z) g }

  pub asked-refused : (w : List ℕ) (o : Output) (r : Refused) → (number ≡ r.0) × (number ≡ 0 → ⊥) → Makes (asking call lines a w) call w o o (Err r)
  unfolding tells
  asked-refused w o r h = record { store = refl; lines = (rw (← e, ne_eqb number 0 h.1, h.0) refl, refl) }
