-- Sums over lists.
use mathlib.Core.Path.{◌≡◌, refl, ◌∙◌, ap}
use Prim.Native.Nat.{ℕ, zero, suc, ◌+◌, ◌≤◌}
use native.Mathlib.Omega.{arith}
use mathlib.Core.Bool.{Bool, true, false, cond}
use mathlib.Core.List.{List, [], ◌∷◌, ◌++◌, map}
use Rattle.model.specs.Lists.{keep, flatten, insert, sort, total, up_from}
use Rattle.model.proofs.ListLaws.{up_from-last}

abbrev pub sum_of : {A : Type 0} → (A → ℕ) → List A → ℕ
sum_of f [] = 0
sum_of f (x ∷ xs) = f x + sum_of f xs

module _ {A : Type 0} (f : A → ℕ) where
  pub sum-append : (xs ys : List A) → sum_of f (xs ++ ys) ≡ sum_of f xs + sum_of f ys
  sum-append [] ys = omega arith
  sum-append (x ∷ xs) ys = let a = sum-append xs ys in omega arith

  sum-insert : (q : A → A → Bool) (x : A) (ys : List A) → sum_of f (insert q x ys) ≡ f x + sum_of f ys
  sum-insert q x [] = refl
  sum-insert q x (y ∷ ys) = go (q x y) (sum-insert q x ys)
    where
      go : (b : Bool) → sum_of f (insert q x ys) ≡ f x + sum_of f ys → sum_of f (cond b (x ∷ (y ∷ ys)) (y ∷ insert q x ys)) ≡ f x + sum_of f (y ∷ ys)
      go true ih = refl
      go false ih = omega arith

  pub sum-sort : (q : A → A → Bool) (xs : List A) → sum_of f (sort q xs) ≡ sum_of f xs
  sum-sort q [] = refl
  sum-sort q (x ∷ xs) = let a = sum-sort q xs in let b = sum-insert q x (sort q xs) in omega arith

  pub sum-keep : (p : A → Bool) (xs : List A) → sum_of f (keep p xs) ≤ sum_of f xs
  sum-keep p [] = omega arith
  sum-keep p (x ∷ xs) = go (p x) (sum-keep p xs)
    where
      go : (b : Bool) → sum_of f (keep p xs) ≤ sum_of f xs → sum_of f (cond b (x ∷ keep p xs) (keep p xs)) ≤ f x + sum_of f xs
      go true ih = omega arith
      go false ih = omega arith

  pub sum-flatten : {B : Type 0} (g : B → List A) (ys : List B) → sum_of f (flatten (map g ys)) ≡ sum_of (λ y. sum_of f (g y)) ys
  sum-flatten g [] = refl
  sum-flatten g (y ∷ ys) = let a = sum-append (g y) (flatten (map g ys)) in let b = sum-flatten g ys in omega arith

-- over n numbers from s on
pub sum-total : (f g : ℕ → ℕ) (s n : ℕ) → ((j : ℕ) → g j ≡ f (s + j)) → sum_of f (up_from s n) ≡ total n g
unfolding total
sum-total f g s zero h = refl
sum-total f g s (suc n) h =
    let a = sum-total f g s n h in
    let b = sum-append f (up_from s n) ((s + n) ∷ []) in
    let c = h n in
    ap (sum_of f) (up_from-last s n) ∙ b ∙ omega arith
