-- What the checks of an image give. Assumes nothing.
use mathlib.Core.Path.{◌≡◌, refl, sym, ap, ◌∙◌}
use mathlib.Core.Logic.{◌⊎◌, inl, inr}
use mathlib.Core.Bool.{Bool, true, false, not, cond, false≢true}
use mathlib.Core.List.{List}
use Rattle.std.specs.Prelude.{Some}
use Prim.Native.Nat.{ℕ, zero, suc, ◌+◌, ◌-◌, ◌≤◌, ◌<◌, zero-le}
use native.Mathlib.Nat.{eq-or-lt_of_le}
use native.Mathlib.Omega.{arith}
use lib.Dec.{leb, eqb}
use lib.ListN.{length}
use borrow.Author.Tests.{leb-true, eq-eqb, ne_eqb}
use Rattle.std.proofs.lemmas.Bool.{and_parts}
use Rattle.model.specs.Lists.{every, position_from, up_from}
use Rattle.model.specs.Rows.{rules}
use Rattle.model.specs.Image.{width_of, first_of, size_of, word_at, place_fits, places_fit, names_differ}
use Rattle.model.specs.Rules.{name_of, rule_named}
use Rattle.model.proofs.Bools.{every-at}

-- 12: a table starts where the one before it ends, or behind
pub table-follows : (img : List ℕ) → places_fit img ≡ true → (t : ℕ) → t < 8 → first_of img t ≤ first_of img (t + 1)
unfolding places_fit
table-follows img e t l =
    let f = every-at (place_fits img) 8 t (and_parts (eqb (first_of img 0) 0) (every 8 (place_fits img)) e).1 l in
    leb-true (first_of img t) (first_of img (t + 1)) (and_parts (leb (first_of img t) (first_of img (t + 1))) _ f).0

pub last-first : (img : List ℕ) → first_of img 8 ≡ length img - 13
unfolding first_of
last-first img = refl

-- each of the seven tables behind the first starts within the image, and so does the trailer
module _ (img : List ℕ) (placed : places_fit img ≡ true) where
  starts_before-last : (k : ℕ) → k ≤ 8 → first_of img (8 - k) ≤ length img
  starts_before-last zero l = omega (arith, last-first img)
  starts_before-last (suc k) l =
      let e : 8 - suc k + 1 ≡ 8 - k = omega arith in
      omega (arith, rw e at (table-follows img placed (8 - suc k) (omega arith)), starts_before-last k (omega arith))

  pub starts-inside : (t : ℕ) → t ≤ 8 → first_of img t ≤ length img
  starts-inside t l = let e : 8 - (8 - t) ≡ t = omega arith in rw e at (starts_before-last (8 - t) (omega arith))

-- the number that is found, where none before it passes
module _ (p : ℕ → Bool) where
  finds-case : (m i k : ℕ) (b : Bool) → p i ≡ b → p k ≡ true → (i < k → p i ≡ false) → (i < k → position_from p (suc i) (up_from (suc i) m) ≡ Some k) → (i ≡ k) ⊎ (i < k)
      → cond b (Some i) (position_from p (suc i) (up_from (suc i) m)) ≡ Some k
  finds-case m i k true h t before rest (inl e) = ap Some e
  finds-case m i k true h t before rest (inr l) = absurd (false≢true (sym (before l) ∙ h))
  finds-case m i k false h t before rest (inl e) = absurd (false≢true (sym h ∙ rw (← e) at t))
  finds-case m i k false h t before rest (inr l) = rest l

  pub finds : (m i k : ℕ) → i ≤ k → k < i + m → p k ≡ true → ((j : ℕ) → j < k → p j ≡ false) → position_from p i (up_from i m) ≡ Some k
  finds zero i k a b t before = absurd (omega arith)
  finds (suc m) i k a b t before =
      finds-case m i k (p i) refl t (before i) (λ l. finds m (suc i) k l (omega arith) t before) (eq-or-lt_of_le a)

-- 15: no two rules of one name, so that a rule is found by its name
module _ (img : List ℕ) (ok : names_differ img ≡ true) where
  pub names-distinct : (a b : ℕ) → b < a → a < size_of img rules → name_of img a ≡ name_of img b → ⊥
  unfolding names_differ word_at width_of every
  names-distinct a b hb ha e =
      let row = every-at _ (size_of img rules) a ok ha in
      let differ : not (eqb (name_of img a) (name_of img b)) ≡ true = every-at _ a b row hb in
      false≢true (sym (ap not (eq-eqb (name_of img a) (name_of img b) e)) ∙ differ)

  pub rule-of-name : (i : ℕ) → i < size_of img rules → rule_named img (name_of img i) ≡ Some i
  unfolding rule_named
  rule-of-name i hi =
      finds (λ k. eqb (name_of img k) (name_of img i)) (size_of img rules) 0 i zero-le (omega arith)
      (eq-eqb (name_of img i) (name_of img i) refl)
      (λ j hj. ne_eqb (name_of img j) (name_of img i) (λ e. names-distinct i j hj hi (sym e)))
