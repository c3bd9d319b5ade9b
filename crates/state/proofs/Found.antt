-- A search from the front for the first element that passes a test. Assumes nothing.
use Prim.Native.Nat.{ℕ, zero, suc, ◌+◌, ◌≤◌, ◌<◌}
use native.Mathlib.Numerals.{add-one}
use native.Mathlib.Omega.{arith}
use mathlib.Core.Bool.{Bool, true, false, cond}
use mathlib.Core.Path.{◌≡◌, refl, sym, ap, subst, ◌∙◌}
use mathlib.Core.List.{List, [], ◌∷◌, ◌++◌, map}
use Rattle.std.specs.Prelude.{Option, None, Some}
use Rattle.std.specs.List.{AllWithin, HoldsAt}
use Rattle.std.specs.Option.{MatchOption}
use lib.ListN.{length, take, drop, get_or, length-map, get_or-map}
use lib.Seq.{drop-cons, take_all, take-suc}
use Rattle.std.proofs.lemmas.List.{get_or_default}
use Rattle.model.specs.Lists.{find}
use Rattle.state.specs.Tables.{First, Finds}

module _ {A : Type 0} where
  -- an element that does not pass, in front of others
  pub passed_over : {B : Type 0} (t : Bool) (x : A) (f : Option A) (g h k : B) → cond t (Some x) f ≡ None → (f ≡ None → h ≡ k) → cond t g h ≡ k
  passed_over true x f g h k e rest = let z : ◌≡◌ {A = ℕ} 0 1 = cc in absurd (omega arith)
  passed_over false x f g h k e rest = rest e

  module _ (p : A → Bool) where
    find_past : (i : ℕ) (l : List A) → find p (take i l) ≡ None → find p l ≡ find p (drop i l)
    find_past zero l e = refl
    find_past (suc i) [] e = refl
    find_past (suc i) (x ∷ l) e = passed_over (p x) x (find p (take i l)) (Some x) (find p l) (find p (drop i l)) e (find_past i l)

    find-append : (xs ys : List A) → find p xs ≡ None → find p (xs ++ ys) ≡ find p ys
    find-append [] ys e = refl
    find-append (x ∷ xs) ys e = passed_over (p x) x (find p xs) (Some x) (find p (xs ++ ys)) (find p ys) e (find-append xs ys)

    module _ (l : List A) (i : ℕ) (first : First p l i) where
      pub found : (d : A) → i < length l → find p l ≡ Some (get_or l i d)
      found d h = find_past i l first.before ∙ rw (drop-cons l i d h, first.passes d h)

      pub not_found : length l ≤ i → find p l ≡ None
      not_found h = rw take_all at first.before

    -- a loop from the front: none of the first i passes
    module _ (l : List A) (i : ℕ) (none_yet : find p (take i l) ≡ None) where
      pub goes_on : (d : A) → i < length l → p (get_or l i d) ≡ false → find p (take (i + 1) l) ≡ None
      goes_on d h e = rw (add-one, take-suc l i d h, find-append (take i l) (get_or l i d ∷ []) none_yet, e) refl

      pub stops : (d : A) → i < length l → p (get_or l i d) ≡ true → First p l i
      stops d h e = record { within = omega arith; before = none_yet; passes = λ f b. ap p (get_or_default l i f d h) ∙ e }

      pub ends : (n : ℕ) → i ≤ n → n ≤ i → n ≡ length l → First p l n
      ends n a b h =
          let all : i ≡ n = omega arith in
          record { within = omega arith; before = rw all at none_yet; passes = λ f k. absurd (omega arith) }

-- what a chain's `position` answers, of elements that say what is tested
module _ {A B : Type 0} (f : B → A) (p : A → Bool) where
  none-before : (l : List B) (i : ℕ) → AllWithin (λ x. p x ≡ false) (map f l) 0 i → find (λ y. p (f y)) (take i l) ≡ None
  none-before l zero h = refl
  none-before [] (suc i) h = refl
  none-before (y ∷ l) (suc i) h = rw (h 0 (f y) (omega arith) (omega arith)) (none-before l i (λ k d a b. h (suc k) d (omega arith) (omega arith)))

  pub finds-first : (l : List B) (r : Option ℕ)
      → MatchOption r (AllWithin (λ x. p x ≡ false) (map f l) 0 (length (map f l))) (λ i. (i < length (map f l)) × HoldsAt (λ x. p x ≡ true) (map f l) i × AllWithin (λ x. p x ≡ false) (map f l) 0 i)
      → Finds (λ y. p (f y)) l r
  finds-first l None h =
      record { within = omega arith; before = none-before l (length l) (subst (AllWithin (λ x. p x ≡ false) (map f l) 0) (length-map l f) h); passes = λ d k. absurd (omega arith) }
  finds-first l (Some i) h =
      let k : i < length l = omega (arith, h.0, length-map l f) in
      (record { within = omega arith; before = none-before l i h.2; passes = λ d m. ap p (sym (get_or-map f l i d)) ∙ h.1 (f d) }, k)
