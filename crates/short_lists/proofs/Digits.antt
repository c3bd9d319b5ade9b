-- The places of a list as digits: value and digits undo one another, and keep the order. Assumes nothing.
use mathlib.Core.Path.{◌≡◌, refl, sym, ap, ◌∙◌}
use mathlib.Core.Bool.{Bool, true, false, ◌&&◌, ◌||◌}
use mathlib.Core.List.{List, [], ◌∷◌}
use Prim.Native.Nat.{ℕ, zero, suc, ◌+◌, ◌*◌, ◌/◌, ◌%◌, ◌≤◌, ◌<◌}
use native.Mathlib.Nat.{suc-mul, mul-le-mul_right, div-add-mod', mod-lt, mul-add-div_right, mul-add-mod_self_right, div-eq_of_lt, mod-eq_of_lt}
use native.Mathlib.Omega.{arith}
use borrow.Author.Tests.{lt-ltb, le-ltb, ltb-true, ltb-false, eqb-true, eqb-false}
use lib.Dec.{ltb, eqb}
use lib.ListN.{length}
use Rattle.std.proofs.lemmas.Bool.{and_from, and_parts}
use Rattle.model.specs.Lists.{all}
use Rattle.short_lists.specs.Order.{first_by_places}
use Rattle.short_lists.specs.Formula.{size, digits, value}
use Rattle.short_lists.proofs.Blocks.{by, size-positive, digit-less}

-- two digits, the first weighs M
order : (M q s p t : ℕ) → s < M → t < M → ltb q p || (eqb q p && ltb s t) ≡ ltb (q * M + s) (p * M + t)
order M q s p t hs ht =
    by (ltb q p)
    (λ e.
    let g : q < p = ltb-true q p e in
    let w : q * M + M ≤ p * M = rw (suc-mul q M) at (mul-le-mul_right M g) in
    rw (e, lt-ltb (q * M + s) (p * M + t) (omega arith)))
    (λ e. by (eqb q p) (λ z. rw (e, z) (same z)) (λ z. rw (e, z) (other e z)))
  where
    same : eqb q p ≡ true → ltb s t ≡ ltb (q * M + s) (p * M + t)
    same z =
        let w : q * M ≡ p * M = ap (λ (x : ℕ). x * M) (eqb-true q p z) in
        by (ltb s t)
        (λ e. let g : s < t = ltb-true s t e in e ∙ sym (lt-ltb (q * M + s) (p * M + t) (omega arith)))
        (λ e. let g : t ≤ s = ltb-false s t e in e ∙ sym (le-ltb (q * M + s) (p * M + t) (omega arith)))

    other : ltb q p ≡ false → eqb q p ≡ false → false ≡ ltb (q * M + s) (p * M + t)
    other e z =
        let d : q ≡ p → ⊥ = eqb-false q p z in
        let a : p ≤ q = ltb-false q p e in
        let g : p < q = omega arith in
        let w : p * M + M ≤ q * M = rw (suc-mul p M) at (mul-le-mul_right M g) in
        sym (le-ltb (q * M + s) (p * M + t) (omega arith))

module _ (n : ℕ) where
  below : List ℕ → Bool
  below l = all (λ p. ltb p n) l

  pub length_digits : (m r : ℕ) → length (digits n m r) ≡ m
  unfolding digits
  length_digits zero r = refl
  length_digits (suc m) r = ap suc (length_digits m (r % size n m))

  pub digits-below : (m r : ℕ) → r < size n m → all (λ p. ltb p n) (digits n m r) ≡ true
  unfolding digits
  digits-below zero r h = refl
  digits-below (suc m) r h =
      and_from _ _ (lt-ltb (r / size n m) n (digit-less n m r h)) (digits-below m (r % size n m) (mod-lt r (size-positive n m r h)))

  pub value-digits : (m r : ℕ) → r < size n m → value n (digits n m r) ≡ r
  unfolding digits value
  value-digits zero r h = let z : r < 1 = unfold size in h in omega arith
  value-digits (suc m) r h =
      rw (length_digits m (r % size n m), value-digits m (r % size n m) (mod-lt r (size-positive n m r h))) (div-add-mod' r (size n m))

  pub value-less : (l : List ℕ) → all (λ p. ltb p n) l ≡ true → value n l < size n (length l)
  unfolding value size
  value-less [] h = omega arith
  value-less (p ∷ l) h =
      let b = and_parts (ltb p n) (all (λ p. ltb p n) l) h in
      let g : p < n = ltb-true p n b.0 in
      let w : p * size n (length l) + size n (length l) ≤ n * size n (length l) = rw (suc-mul p (size n (length l))) at (mul-le-mul_right (size n (length l)) g) in
      omega (arith, value-less l b.1)

  pub digits_value : (l : List ℕ) → all (λ p. ltb p n) l ≡ true → digits n (length l) (value n l) ≡ l
  unfolding value digits
  digits_value [] h = refl
  digits_value (p ∷ l) h =
      let M = size n (length l) in
      let b = and_parts (ltb p n) (all (λ p. ltb p n) l) h in
      let v : value n l < M = value-less l b.1 in
      let z : 0 < M = omega arith in
      let q : (p * M + value n l) / M ≡ p = mul-add-div_right z p (value n l) ∙ rw (div-eq_of_lt v) (omega arith) in
      let s : (p * M + value n l) % M ≡ value n l = mul-add-mod_self_right p M (value n l) ∙ mod-eq_of_lt v in
      rw (q, s, digits_value l b.1)

  pub digits-order : (m r t : ℕ) → r < size n m → t < size n m → first_by_places (digits n m r) (digits n m t) ≡ ltb r t
  unfolding digits first_by_places
  digits-order zero r t h g =
      let x : r < 1 = unfold size in h in
      let y : t < 1 = unfold size in g in
      sym (le-ltb r t (omega arith))
  digits-order (suc m) r t h g =
      let M = size n m in
      let z : 0 < M = size-positive n m r h in
      let s : r % M < M = mod-lt r z in
      let u : t % M < M = mod-lt t z in
      rw (digits-order m (r % M) (t % M) s u)
      (order M (r / M) (r % M) (t / M) (t % M) s u ∙ rw (div-add-mod' r M, div-add-mod' t M))
