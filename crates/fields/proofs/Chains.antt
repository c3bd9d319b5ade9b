-- What chains of iterators compute, in the words of the specification's lists. `ran` is the call's clause, and `computes` says that the closure answers as the
-- test does and that a call leaves it as it was: mostly `λ x b q k. search rules`. Assumes nothing.
use mathlib.Core.Path.{◌≡◌, refl, sym, subst, ◌∙◌}
use mathlib.Core.Bool.{Bool, true, false, ◌&&◌, ◌||◌}
use mathlib.Core.List.{List, [], ◌∷◌}
use Prim.Native.Nat.{ℕ, zero, suc, ◌<◌}
use native.Mathlib.Nat.{zero-add}
use native.Mathlib.Omega.{arith}
use lib.ListN.{length, get_or}
use denote.Param.Members.{Mut}
use Rattle.std.specs.Prelude.{Option}
use Rattle.std.specs.declared.ops.Range.{Range}
use Rattle.std.specs.Bool.{MatchBool}
use Rattle.std.specs.Fn.{Called}
use Rattle.std.specs.Iterator.{YieldsThen}
use Rattle.std.specs.List.{FoldsTo, AllWithin, HoldsAt, range_with_len}
use Rattle.std.specs.Option.{MatchOption}
use Rattle.std.proofs.iter.Yields.{nat_range_steps}
use Rattle.std.proofs.lemmas.List.FromFn.{length-range_with_len, get_or-range_with_len}
use Rattle.std.proofs.lemmas.Iterator.{YieldsList, YieldsList-from_range, cases_from_all, cases_from_any}
use Rattle.model.specs.Lists.{all, any, every}
use Rattle.fields.proofs.Every.{every_holds, fails}

-- what is shown of each element, or of one
module _ {A : Type 0} (p : A → Bool) where
  all-holds : (l : List A) → AllWithin (λ x. p x ≡ true) l 0 (length l) → true ≡ all p l
  all-holds [] h = refl
  all-holds (x ∷ l) h = rw (h 0 x (omega arith) (omega arith)) (all-holds l (λ k d a b. h (suc k) d (omega arith) (omega arith)))

  one_fails : (l : List A) (k : ℕ) → k < length l → HoldsAt (λ x. p x ≡ false) l k → false ≡ all p l
  one_fails [] k h f = absurd (omega arith)
  one_fails (x ∷ l) zero h f = rw (f x) refl
  one_fails (x ∷ l) (suc k) h f = go (p x) (one_fails l k (omega arith) f)
    where
      go : (b : Bool) → false ≡ all p l → false ≡ b && all p l
      go true e = e
      go false e = refl

  all-cases : (l : List A) (r : Bool) → MatchBool r (AllWithin (λ x. p x ≡ true) l 0 (length l)) ((k : ℕ) × (k < length l) × HoldsAt (λ x. p x ≡ false) l k) → r ≡ all p l
  all-cases l true h = all-holds l h
  all-cases l false h = one_fails l h.0 h.1 h.2

  none_holds : (l : List A) → AllWithin (λ x. p x ≡ false) l 0 (length l) → false ≡ any p l
  none_holds [] h = refl
  none_holds (x ∷ l) h = rw (h 0 x (omega arith) (omega arith)) (none_holds l (λ k d a b. h (suc k) d (omega arith) (omega arith)))

  one-holds : (l : List A) (k : ℕ) → k < length l → HoldsAt (λ x. p x ≡ true) l k → true ≡ any p l
  one-holds [] k h f = absurd (omega arith)
  one-holds (x ∷ l) zero h f = rw (f x) refl
  one-holds (x ∷ l) (suc k) h f = go (p x) (one-holds l k (omega arith) f)
    where
      go : (b : Bool) → true ≡ any p l → true ≡ b || any p l
      go true e = refl
      go false e = e

  any-cases : (l : List A) (r : Bool) → MatchBool r ((k : ℕ) × (k < length l) × HoldsAt (λ x. p x ≡ true) l k) (AllWithin (λ x. p x ≡ false) l 0 (length l)) → r ≡ any p l
  any-cases l true h = one-holds l h.0 h.1 h.2
  any-cases l false h = none_holds l h

-- `all` and `any` over what a chain yields
module _ {S A B F : Type 0} {steps : S → Option A → S → Type 0} {v : A → B} {g : Mut F (A × Unit {0}) Bool} {s : S} {l : List B} (u : S) (f : F) (p : B → Bool) (r : Bool) where
  pub computes-all :
      (ran : (xs : List A) × (o : Option A) × (j : F) × YieldsThen steps s xs o u × FoldsTo (λ q x t. Called g q (x, tt) true t) f xs j × MatchOption o (r ≡ true) (λ x. (r ≡ false) × ((h : F) × Called g j (x, tt) false h)))
      → YieldsList steps v s l
      → (computes : (x : A) (b : Bool) (q : F) → Called g f (x, tt) b q → (q ≡ f) × (b ≡ p (v x)))
      → r ≡ all p l
  computes-all ran y computes =
      all-cases p l r (cases_from_all u f r (λ x. p x ≡ true) (λ x. p x ≡ false) ran y
      (λ x q k. let c = computes x true q k in (c.0, sym c.1)) (λ x q k. sym (computes x false q k).1))

  pub computes-any :
      (ran : (xs : List A) × (o : Option A) × (j : F) × YieldsThen steps s xs o u × FoldsTo (λ q x t. Called g q (x, tt) false t) f xs j × MatchOption o (r ≡ false) (λ x. (r ≡ true) × ((h : F) × Called g j (x, tt) true h)))
      → YieldsList steps v s l
      → (computes : (x : A) (b : Bool) (q : F) → Called g f (x, tt) b q → (q ≡ f) × (b ≡ p (v x)))
      → r ≡ any p l
  computes-any ran y computes =
      any-cases p l r (cases_from_any u f r (λ x. p x ≡ true) (λ x. p x ≡ false) ran y
      (λ x q k. sym (computes x true q k).1) (λ x q k. let c = computes x false q k in (c.0, sym c.1)))

-- `all` over the numbers below n
module _ {F : Type 0} {g : Mut F (ℕ × Unit {0}) Bool} (s u : Range ℕ) (f : F) (p : ℕ → Bool) (r : Bool) (n : ℕ) where
  pub computes-every :
      (ran : (xs : List ℕ) × (o : Option ℕ) × (j : F) × YieldsThen nat_range_steps s xs o u × FoldsTo (λ q x t. Called g q (x, tt) true t) f xs j × MatchOption o (r ≡ true) (λ x. (r ≡ false) × ((h : F) × Called g j (x, tt) false h)))
      → s ≡ record { start = 0; end = n }
      → (computes : (x : ℕ) (b : Bool) (q : F) → Called g f (x, tt) b q → (q ≡ f) × (b ≡ p x))
      → r ≡ every n p
  computes-every ran e computes =
      go r (cases_from_all u f r (λ x. p x ≡ true) (λ x. p x ≡ false) ran (YieldsList-from_range 0 n n e (omega arith))
      (λ x q k. let c = computes x true q k in (c.0, sym c.1)) (λ x q k. sym (computes x false q k).1))
    where
      numbers : List ℕ
      numbers = range_with_len 0 n

      at : (k : ℕ) → k < n → get_or numbers k 0 ≡ k
      at k h = get_or-range_with_len 0 n k 0 h ∙ zero-add k

      go : (b : Bool) → MatchBool b (AllWithin (λ x. p x ≡ true) numbers 0 (length numbers)) ((k : ℕ) × (k < length numbers) × HoldsAt (λ x. p x ≡ false) numbers k) → b ≡ every n p
      go true h = sym (every_holds p n (λ k l. subst (λ x. p x ≡ true) (at k l) (h k 0 (omega arith) (rw (length-range_with_len 0 n) l))))
      go false h =
          let l : h.0 < n = rw (length-range_with_len 0 n) at h.1 in
          sym (fails p n h.0 l (subst (λ x. p x ≡ false) (at h.0 l) (h.2 0)))
