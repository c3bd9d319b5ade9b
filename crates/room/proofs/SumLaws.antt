-- Sums and counts over lists, beside those of `ledger`.
use mathlib.Core.Path.{◌≡◌, refl, ◌∙◌, ap, ap₂}
use Prim.Native.Nat.{ℕ, zero, suc, ◌+◌, ◌*◌, ◌≤◌, ◌<◌}
use native.Mathlib.Omega.{arith}
use mathlib.Core.Bool.{Bool, true, false, cond, ◌||◌}
use mathlib.Core.List.{List, [], ◌∷◌}
use lib.Dec.{ltb}
use lib.ListN.{length}
use borrow.Author.Tests.{ltb-true, ltb-false}
use Rattle.model.specs.Lists.{keep, sort, total, up_from}
use Rattle.ledger.proofs.ListLaws.{by, Every}
use Rattle.ledger.proofs.SumLaws.{sum_of, sum-sort, sum-total}
use Rattle.room.specs.Room.{count, greatest}

pub sum_mono : {A : Type 0} (f g : A → ℕ) (xs : List A) → Every (λ x. f x ≤ g x) xs → sum_of f xs ≤ sum_of g xs
sum_mono f g [] h = omega arith
sum_mono f g (x ∷ xs) h = let a = sum_mono f g xs h.1 in let b = h.0 in omega arith

pub sum_same : {A : Type 0} (f g : A → ℕ) (xs : List A) → Every (λ x. f x ≡ g x) xs → sum_of f xs ≡ sum_of g xs
sum_same f g [] h = refl
sum_same f g (x ∷ xs) h = ap₂ ◌+◌ h.0 (sum_same f g xs h.1)

pub sum-from : (f : ℕ → ℕ) (n : ℕ) → sum_of f (up_from 0 n) ≡ total n f
sum-from f n = sum-total f f 0 n (λ j. ap f (zero-sum j))
  where
    zero-sum : (k : ℕ) → k ≡ 0 + k
    zero-sum k = omega arith

-- the numbers below n, in any order
pub sum-order : (f : ℕ → ℕ) (q : ℕ → ℕ → Bool) (n : ℕ) → sum_of f (sort q (up_from 0 n)) ≡ total n f
sum-order f q n = sum-sort f q (up_from 0 n) ∙ sum-from f n

-- a list of at most n, each at most m
pub sum-few : {A : Type 0} (f : A → ℕ) (m : ℕ) (xs : List A) → Every (λ x. f x ≤ m) xs → sum_of f xs ≤ length xs * m
sum-few f m [] h = omega arith
sum-few f m (x ∷ xs) h = let a = sum-few f m xs h.1 in let b = h.0 in omega arith

-- COUNTS --------------------------------------------------------------------------------------------------------------------------
module _ {A : Type 0} where
  pub count-length : (p : A → Bool) (xs : List A) → count p xs ≤ length xs
  count-length p [] = omega arith
  count-length p (x ∷ xs) = go (p x) (count-length p xs)
    where
      go : (b : Bool) → count p xs ≤ length xs → cond b 1 0 + count p xs ≤ suc (length xs)
      go true ih = omega arith
      go false ih = omega arith

  pub count-or : (p q : A → Bool) (xs : List A) → count (λ x. p x || q x) xs ≤ count p xs + count q xs
  count-or p q [] = omega arith
  count-or p q (x ∷ xs) = go (p x) (q x) (count-or p q xs)
    where
      go : (a b : Bool) → count (λ x. p x || q x) xs ≤ count p xs + count q xs
          → cond (a || b) 1 0 + count (λ x. p x || q x) xs ≤ (cond a 1 0 + count p xs) + (cond b 1 0 + count q xs)
      go true b ih = omega arith
      go false true ih = omega arith
      go false false ih = omega arith

  pub count_none : (xs : List A) → count (λ x. false) xs ≡ 0
  count_none [] = refl
  count_none (x ∷ xs) = let a = count_none xs in omega arith

-- each of `ts` takes those of `is` that it listens to: summed by the one or by the other
module _ {A B : Type 0} (p : A → B → Bool) (w : B → ℕ) where
  one_more : (i : B) (is : List B) (ts : List A) → sum_of (λ t. sum_of w (keep (p t) (i ∷ is))) ts ≡ count (λ t. p t i) ts * w i + sum_of (λ t. sum_of w (keep (p t) is)) ts
  one_more i is [] = omega arith
  one_more i is (t ∷ ts) = go (p t i) (one_more i is ts)
    where
      go : (b : Bool) → sum_of (λ t. sum_of w (keep (p t) (i ∷ is))) ts ≡ count (λ t. p t i) ts * w i + sum_of (λ t. sum_of w (keep (p t) is)) ts
          → sum_of w (cond b (i ∷ keep (p t) is) (keep (p t) is)) + sum_of (λ t. sum_of w (keep (p t) (i ∷ is))) ts
          ≡ (cond b 1 0 + count (λ t. p t i) ts) * w i + (sum_of w (keep (p t) is) + sum_of (λ t. sum_of w (keep (p t) is)) ts)
      go true ih = omega arith
      go false ih = omega arith

  none_left : (ts : List A) → sum_of (λ t. sum_of w (keep (p t) [])) ts ≡ 0
  none_left [] = refl
  none_left (t ∷ ts) = let a = none_left ts in omega arith

  pub sum-swap : (is : List B) (ts : List A) → sum_of (λ t. sum_of w (keep (p t) is)) ts ≡ sum_of (λ i. count (λ t. p t i) ts * w i) is
  sum-swap [] ts = none_left ts
  sum-swap (i ∷ is) ts = let a = one_more i is ts in let b = sum-swap is ts in omega arith

-- TOTALS --------------------------------------------------------------------------------------------------------------------------
pub greatest-at : (f : ℕ → ℕ) (n i : ℕ) → i < n → f i ≤ greatest n f
unfolding greatest
greatest-at f zero i h = absurd (omega arith)
greatest-at f (suc n) i h =
    by (ltb i n)
    (λ t. let a = greatest-at f n i (ltb-true i n t) in omega arith)
    (λ t. let z = ltb-false i n t in let a : i ≡ n = omega arith in let b = ap f a in omega arith)

pub total_mono : (n : ℕ) (f g : ℕ → ℕ) → ((i : ℕ) → f i ≤ g i) → total n f ≤ total n g
unfolding total
total_mono zero f g h = omega arith
total_mono (suc n) f g h = let a = total_mono n f g h in let b = h n in omega arith

-- a sum of multiples
pub total-linear : (n a b c : ℕ) (f g : ℕ → ℕ) → total n (λ i. a + b * f i + c * g i) ≡ n * a + b * total n f + c * total n g
unfolding total
total-linear zero a b c f g = omega arith
total-linear (suc n) a b c f g = let x = total-linear n a b c f g in omega arith
