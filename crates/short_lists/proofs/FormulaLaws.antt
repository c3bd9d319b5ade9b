-- List k of each length, as the code divides. Assumes nothing.
use mathlib.Core.Path.{◌≡◌, refl, sym, ap, ◌∙◌}
use mathlib.Core.List.{List, [], ◌∷◌}
use Prim.Native.Nat.{ℕ, suc, ◌*◌, ◌-◌, ◌/◌, ◌%◌, ◌≤◌, ◌<◌}
use native.Mathlib.Nat.{mul-one, mul_assoc, div-one, mul-le-mul}
use native.Mathlib.Omega.{arith}
use borrow.Author.Tests.{lt-ltb, le-ltb}
use Rattle.model.specs.ShortLists.{count_of, list_at, places_of}
use Rattle.short_lists.specs.Formula.{size, digits, formula_from, formula}
use Rattle.short_lists.proofs.Theorems.{count-formula, list-by-formula}

module _ (n : ℕ) where
  size-one : size n 1 ≡ n
  unfolding size
  size-one = mul-one n

  size-two : size n 2 ≡ n * n
  unfolding size
  size-two = rw (mul-one n)

  size-three : size n 3 ≡ n * n * n
  unfolding size
  size-three = rw (mul-one n) (sym (mul_assoc n n n))

  here : (m f k : ℕ) → k < size n m → formula_from n m (suc f) k ≡ digits n m k
  unfolding formula_from
  here m f k h = rw (lt-ltb k (size n m) h)

  past : (m f k : ℕ) → size n m ≤ k → formula_from n m (suc f) k ≡ formula_from n (suc m) f (k - size n m)
  unfolding formula_from
  past m f k h = rw (le-ltb k (size n m) h)

  digits-one : (r : ℕ) → digits n 1 r ≡ r ∷ []
  unfolding digits size
  digits-one r = rw (div-one r)

  digits-two : (r : ℕ) → digits n 2 r ≡ (r / n) ∷ (r % n) ∷ []
  unfolding digits
  digits-two r = rw (size-one) (ap (λ (l : List ℕ). (r / n) ∷ l) (digits-one (r % n)))

  digits-three : (r : ℕ) → digits n 3 r ≡ (r / (n * n)) ∷ (r % (n * n) / n) ∷ (r % (n * n) % n) ∷ []
  unfolding digits
  digits-three r = rw (size-two) (ap (λ (l : List ℕ). (r / (n * n)) ∷ l) (digits-two (r % (n * n))))

  module _ (k : ℕ) (h : k < count_of n) where
    found : (l : List ℕ) → formula n k ≡ l → places_of l ≡ places_of (list_at n k)
    found l e = ap places_of (sym (list-by-formula n k h ∙ e))

    empty-size : size n 0 ≡ 1
    unfolding size
    empty-size = refl

    pub of_none : k ≡ 0 → 0 ∷ 0 ∷ 0 ∷ 0 ∷ [] ≡ places_of (list_at n k)
    unfolding places_of formula digits
    of_none e = found [] (here 0 3 k (rw empty-size (omega arith)))

    behind-none : (k ≡ 0 → ⊥) → formula n k ≡ formula_from n 1 3 (k - 1)
    unfolding formula
    behind-none e = rw empty-size at (past 0 3 k (rw empty-size (omega arith)))

    pub of_one : (k ≡ 0 → ⊥) → k - 1 < n → 1 ∷ (k - 1) ∷ 0 ∷ 0 ∷ [] ≡ places_of (list_at n k)
    unfolding places_of
    of_one e g = found ((k - 1) ∷ []) (behind-none e ∙ here 1 2 (k - 1) (rw size-one g) ∙ digits-one (k - 1))

    behind-one : (k ≡ 0 → ⊥) → n ≤ k - 1 → formula n k ≡ formula_from n 2 2 (k - 1 - n)
    behind-one e g = behind-none e ∙ rw size-one at (past 1 2 (k - 1) (rw size-one g))

    pub of_two : (k ≡ 0 → ⊥) → n ≤ k - 1 → k - 1 - n < n * n → 2 ∷ ((k - 1 - n) / n) ∷ ((k - 1 - n) % n) ∷ 0 ∷ [] ≡ places_of (list_at n k)
    unfolding places_of
    of_two e g q =
        found (((k - 1 - n) / n) ∷ ((k - 1 - n) % n) ∷ []) (behind-one e g ∙ here 2 1 (k - 1 - n) (rw size-two q) ∙ digits-two (k - 1 - n))

    pub of_three :
        (k ≡ 0 → ⊥) → n ≤ k - 1 → n * n ≤ k - 1 - n
        → 3 ∷ ((k - 1 - n - n * n) / (n * n)) ∷ ((k - 1 - n - n * n) % (n * n) / n) ∷ ((k - 1 - n - n * n) % (n * n) % n) ∷ [] ≡ places_of (list_at n k)
    unfolding places_of
    of_three e g q =
        let r = k - 1 - n - n * n in
        let less : r < n * n * n = omega (arith, count-formula n) in
        let behind-two : formula n k ≡ formula_from n 3 1 r = behind-one e g ∙ rw size-two at (past 2 1 (k - 1 - n) (rw size-two q)) in
        found ((r / (n * n)) ∷ (r % (n * n) / n) ∷ (r % (n * n) % n) ∷ []) (behind-two ∙ here 3 0 r (rw size-three less) ∙ digits-three r)

  pub square-most : n ≤ 8 → n * n ≤ 64
  square-most h = mul-le-mul h h

  pub cube-most : n ≤ 8 → n * n * n ≤ 512
  cube-most h = mul-le-mul (square-most h) h

  pub square-least : 1 ≤ n → 1 ≤ n * n
  square-least h = mul-le-mul h h
