-- Where list r of the lists of m places stands, and list k of all. Assumes nothing.
use mathlib.Core.Path.{◌≡◌, refl, sym, ap, ◌∙◌}
use mathlib.Core.Bool.{Bool, true, false}
use mathlib.Core.List.{List, [], ◌∷◌, map}
use Prim.Native.Nat.{ℕ, zero, suc, ◌+◌, ◌*◌, ◌-◌, ◌/◌, ◌%◌, ◌≤◌, ◌<◌}
use native.Mathlib.Nat.{suc-mul, mul-zero, zero-mul, div-add-mod', mod-lt, div-lt_iff_lt-mul}
use native.Mathlib.Omega.{arith}
use borrow.Author.Tests.{ltb-true, ltb-false}
use lib.Dec.{ltb}
use lib.ListN.{length, get_or, length-append, length-map, get_or-append, get_or-map}
use lib.Seq.{get_or-append-add}
use Rattle.std.proofs.lemmas.List.{get_or_default}
use Rattle.model.specs.Lists.{flatten, up_from}
use Rattle.model.specs.ShortLists.{lists_of, lists_from}
use Rattle.short_lists.specs.Formula.{size, digits, formula_from, gap}

pub by : {P : Type 0} (b : Bool) → (b ≡ true → P) → (b ≡ false → P) → P
by true f g = f refl
by false f g = g refl

-- each of the places a, a + 1, .. in front of each list: c blocks
module _ (L : List (List ℕ)) where
  front : ℕ → List (List ℕ)
  front p = map (λ l. p ∷ l) L

  length_front : (p : ℕ) → length (front p) ≡ length L
  unfolding front
  length_front p = length-map L (λ l. p ∷ l)

  at_front : (p s : ℕ) → s < length L → get_or (front p) s [] ≡ p ∷ get_or L s []
  unfolding front
  at_front p s g = get_or_default (front p) s [] (p ∷ []) (rw (length_front p) g) ∙ get_or-map (λ l. p ∷ l) L s []

  blocks : ℕ → ℕ → List (List ℕ)
  blocks a c = flatten (map front (up_from a c))

  length-blocks : (a c : ℕ) → length (blocks a c) ≡ c * length L
  unfolding blocks
  length-blocks a zero = sym (zero-mul (length L))
  length-blocks a (suc c) =
      length-append (front a) (blocks (suc a) c) ∙ rw (length_front a, length-blocks (suc a) c, suc-mul c (length L)) (omega arith)

  at-blocks : (a c q s : ℕ) → q < c → s < length L → get_or (blocks a c) (q * length L + s) [] ≡ (a + q) ∷ get_or L s []
  unfolding blocks front
  at-blocks a zero q s h g = absurd (omega arith)
  at-blocks a (suc c) zero s h g =
      let e : zero * length L + s ≡ s = rw (zero-mul (length L)) (omega arith) in
      let z : a + zero ≡ a = omega arith in
      let i : s < length (front a) = rw (length_front a) g in
      rw (e, z) (get_or-append (front a) (blocks (suc a) c) [] s i ∙ at_front a s g)
  at-blocks a (suc c) (suc q) s h g =
      let e : suc q * length L + s ≡ length (front a) + (q * length L + s) = rw (length_front a, suc-mul q (length L)) (omega arith) in
      let z : a + suc q ≡ suc a + q = omega arith in
      rw (e, z) (get_or-append-add (front a) (blocks (suc a) c) (q * length L + s) [] ∙ at-blocks (suc a) c q s (omega arith) g)

module _ (n : ℕ) where
  -- THE LISTS OF ONE LENGTH

  pub length-lists : (m : ℕ) → length (lists_of n m) ≡ size n m
  unfolding lists_of size blocks front
  length-lists zero = refl
  length-lists (suc m) = length-blocks (lists_of n m) 0 n ∙ ap (λ (x : ℕ). n * x) (length-lists m)

  pub size-positive : (m r : ℕ) → r < size n (suc m) → 0 < size n m
  unfolding size
  size-positive m r h = positive (size n m) h
    where
      positive : (x : ℕ) → r < n * x → 0 < x
      positive zero h = absurd (omega (arith, rw (mul-zero n) at h))
      positive (suc x) h = omega arith

  pub digit-less : (m r : ℕ) → r < size n (suc m) → r / size n m < n
  digit-less m r h = (div-lt_iff_lt-mul (size-positive m r h)).1 (unfold size in h)

  pub digits-at : (m r : ℕ) → r < size n m → get_or (lists_of n m) r [] ≡ digits n m r
  unfolding lists_of digits blocks front
  digits-at zero zero h = refl
  digits-at zero (suc r) h = let z : suc r < 1 = unfold size in h in absurd (omega arith)
  digits-at (suc m) r h =
      let M = size n m in
      let q : r / M < n = digit-less m r h in
      let s : r % M < M = mod-lt r (size-positive m r h) in
      let g : r % M < length (lists_of n m) = rw (length-lists m) s in
      let e : r / M * length (lists_of n m) + r % M ≡ r = rw (length-lists m) (div-add-mod' r M) in
      let z : 0 + r / M ≡ r / M = omega arith in
      sym (ap (λ (i : ℕ). get_or (blocks (lists_of n m) 0 n) i []) e)
      ∙ at-blocks (lists_of n m) 0 n (r / M) (r % M) q g
      ∙ rw (z, digits-at m (r % M) s)

  -- ALL LENGTHS

  pub length-all : (m f : ℕ) → length (lists_from n m f) ≡ gap n m f
  unfolding lists_from gap
  length-all m zero = refl
  length-all m (suc f) = length-append (lists_of n m) (lists_from n (suc m) f) ∙ rw (length-lists m, length-all (suc m) f)

  pub first-length : (m f k : ℕ) → k < size n m → get_or (lists_from n m (suc f)) k [] ≡ digits n m k
  unfolding lists_from
  first-length m f k h = get_or-append (lists_of n m) (lists_from n (suc m) f) [] k (rw (length-lists m) h) ∙ digits-at m k h

  pub next-length : (m f k : ℕ) → get_or (lists_from n m (suc f)) (size n m + k) [] ≡ get_or (lists_from n (suc m) f) k []
  unfolding lists_from
  next-length m f k = rw (← length-lists m) (get_or-append-add (lists_of n m) (lists_from n (suc m) f) k [])

  -- (a) the formula gives list k
  pub formula-from : (m f k : ℕ) → k < gap n m f → get_or (lists_from n m f) k [] ≡ formula_from n m f k
  unfolding formula_from gap
  formula-from m zero k h = absurd (omega arith)
  formula-from m (suc f) k h =
      by (ltb k (size n m))
      (λ e. rw e (first-length m f k (ltb-true k (size n m) e)))
      (λ e.
      let g : size n m ≤ k = ltb-false k (size n m) e in
      let z : k ≡ size n m + (k - size n m) = omega arith in
      rw e (ap (λ (i : ℕ). get_or (lists_from n m (suc f)) i []) z ∙ next-length m f (k - size n m) ∙ formula-from (suc m) f (k - size n m) (omega arith)))
