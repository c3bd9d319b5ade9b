-- The numbering of the short lists: (a) the formula, (b) one number for each list, (c) the order, (e) 585 lists of eight. Assumes nothing.
use mathlib.Core.Path.{◌≡◌, sym, ap, ◌∙◌}
use mathlib.Core.Bool.{true, ◌&&◌, ◌||◌}
use mathlib.Core.List.{List, []}
use Prim.Native.Nat.{ℕ, zero, suc, ◌+◌, ◌*◌, ◌-◌, ◌≤◌, ◌<◌}
use native.Mathlib.Nat.{mul-one, mul_assoc}
use native.Mathlib.Omega.{arith}
use borrow.Author.Tests.{lt-ltb, le-ltb, ltb-true, ltb-false, eqb-true, eqb-false}
use lib.Dec.{ltb, eqb}
use lib.ListN.{length, get_or}
use Rattle.std.proofs.lemmas.Bool.{and_parts}
use Rattle.model.specs.Lists.{all}
use Rattle.model.specs.ShortLists.{lists_from, short_lists, count_of, list_at}
use Rattle.short_lists.specs.Order.{is_short, first_by_places, comes_before}
use Rattle.short_lists.specs.Formula.{size, digits, formula, gap, value, number}
use Rattle.short_lists.proofs.Blocks.{by, length-all, first-length, next-length, formula-from}
use Rattle.short_lists.proofs.Digits.{length_digits, digits-below, value-digits, value-less, digits_value, digits-order}

-- (e)
pub count-formula : (n : ℕ) → count_of n ≡ 1 + n + n * n + n * n * n
unfolding count_of short_lists gap size
count-formula n =
    let e : 1 + (n * 1 + (n * (n * 1) + (n * (n * (n * 1)) + 0))) ≡ 1 + n + n * n + n * n * n = rw (mul-one n, mul_assoc n n n) (omega arith) in
    length-all n 0 4 ∙ e

pub eight : count_of 8 ≡ 585
eight = count-formula 8

module _ (n : ℕ) where
  count-gap : count_of n ≡ gap n 0 4
  unfolding count_of short_lists
  count-gap = length-all n 0 4

  -- (a)
  pub list-by-formula : (k : ℕ) → k < count_of n → list_at n k ≡ formula n k
  unfolding list_at short_lists formula
  list-by-formula k h = formula-from n 0 4 k (rw count-gap at h)

  -- list r of the lists of m + d places
  at_gap : (f m d r : ℕ) → d < f → r < size n (m + d) → get_or (lists_from n m f) (gap n m d + r) [] ≡ digits n (m + d) r
  unfolding gap
  at_gap zero m d r h g = absurd (omega arith)
  at_gap (suc f) m zero r h g =
      let e : m + zero ≡ m = omega arith in
      let z : 0 + r ≡ r = omega arith in
      rw (e, z) (first-length n m f r (rw e at g))
  at_gap (suc f) m (suc d) r h g =
      let e : m + suc d ≡ suc m + d = omega arith in
      let z : (size n m + gap n (suc m) d) + r ≡ size n m + (gap n (suc m) d + r) = omega arith in
      rw (e, z) (next-length n m f (gap n (suc m) d + r) ∙ at_gap f (suc m) d r (omega arith) (rw e at g))

  -- the lists of d lengths stand before those of more
  gap_more : (d m c : ℕ) → d < c → gap n m d + size n (m + d) ≤ gap n m c
  unfolding gap
  gap_more d m zero h = absurd (omega arith)
  gap_more zero m (suc c) h = let e : m + zero ≡ m = omega arith in rw e (omega arith)
  gap_more (suc d) m (suc c) h =
      let e : m + suc d ≡ suc m + d = omega arith in
      rw e (omega (arith, gap_more d (suc m) c (omega arith)))

  -- number k as a length and a list of that length
  record Split (m f k : ℕ) : Type 0 where
    d : ℕ
    r : ℕ
    few : d < f
    less : r < size n (m + d)
    sum : k ≡ gap n m d + r

  split : (f m k : ℕ) → k < gap n m f → Split m f k
  unfolding gap
  split zero m k h = absurd (omega arith)
  split (suc f) m k h =
      by (ltb k (size n m))
      (λ e.
      let g : k < size n m = ltb-true k (size n m) e in
      let z : m + 0 ≡ m = omega arith in
      record { d = 0; r = k; few = omega arith; less = rw z g; sum = omega arith })
      (λ e.
      let g : size n m ≤ k = ltb-false k (size n m) e in
      let s = split f (suc m) (k - size n m) (omega arith) in
      let z : m + suc s.d ≡ suc m + s.d = omega arith in
      record { d = suc s.d; r = s.r; few = omega (arith, s.few); less = rw z s.less; sum = omega (arith, s.sum) })

  -- what is known of list k
  record Known (k : ℕ) : Type 0 where
    d : ℕ
    r : ℕ
    few : d < 4
    less : r < size n d
    sum : k ≡ gap n 0 d + r
    list : list_at n k ≡ digits n d r

  known : (k : ℕ) → k < count_of n → Known k
  unfolding list_at short_lists
  known k h =
      let s = split 4 0 k (rw count-gap at h) in
      let z : 0 + s.d ≡ s.d = omega arith in
      let l : s.r < size n s.d = rw z at s.less in
      record {
        d = s.d;
        r = s.r;
        few = s.few;
        less = l;
        sum = s.sum;
        list = ap (λ (i : ℕ). get_or (lists_from n 0 4) i []) s.sum ∙ rw z at (at_gap 4 0 s.d s.r s.few s.less);
      }

  -- (b) list k is short, and k is its number
  pub list-is-short : (k : ℕ) → k < count_of n → is_short n (list_at n k) ≡ true
  unfolding is_short
  list-is-short k h =
      let s = known k h in
      rw (s.list, length_digits n s.d s.r, lt-ltb s.d 4 s.few) (digits-below n s.d s.r s.less)

  pub number-of-list : (k : ℕ) → k < count_of n → number n (list_at n k) ≡ k
  unfolding number
  number-of-list k h =
      let s = known k h in
      rw (s.list, length_digits n s.d s.r, value-digits n s.d s.r s.less) (sym s.sum)

  -- (b) each short list has a number below the count, and it is the list of that number
  pub number-below : (l : List ℕ) → is_short n l ≡ true → number n l < count_of n
  unfolding is_short number
  number-below l h =
      let b = and_parts (ltb (length l) 4) (all (λ p. ltb p n) l) h in
      let z : 0 + length l ≡ length l = omega arith in
      let w : gap n 0 (length l) + size n (length l) ≤ gap n 0 4 = rw z at (gap_more (length l) 0 4 (ltb-true (length l) 4 b.0)) in
      rw count-gap (omega (arith, value-less n l b.1))

  pub list-of-number : (l : List ℕ) → is_short n l ≡ true → list_at n (number n l) ≡ l
  unfolding is_short number list_at short_lists
  list-of-number l h =
      let b = and_parts (ltb (length l) 4) (all (λ p. ltb p n) l) h in
      let z : 0 + length l ≡ length l = omega arith in
      rw z at (at_gap 4 0 (length l) (value n l) (ltb-true (length l) 4 b.0) (rw z (value-less n l b.1))) ∙ digits_value n l b.1

  -- (b) no other number is its
  pub one_number : (l : List ℕ) (k : ℕ) → k < count_of n → list_at n k ≡ l → k ≡ number n l
  one_number l k h e = sym (number-of-list k h) ∙ ap (number n) e

  -- (c)
  one-length : (d r u : ℕ) → r < size n d → u < size n d → first_by_places (digits n d r) (digits n d u) ≡ ltb (gap n 0 d + r) (gap n 0 d + u)
  one-length d r u h g =
      digits-order n d r u h g ∙
      by (ltb r u)
      (λ e. let x : r < u = ltb-true r u e in e ∙ sym (lt-ltb (gap n 0 d + r) (gap n 0 d + u) (omega arith)))
      (λ e. let x : u ≤ r = ltb-false r u e in e ∙ sym (le-ltb (gap n 0 d + r) (gap n 0 d + u) (omega arith)))

  shorter : (d r c u : ℕ) → r < size n d → d < c → gap n 0 d + r < gap n 0 c + u
  shorter d r c u h l =
      let z : 0 + d ≡ d = omega arith in
      let w : gap n 0 d + size n d ≤ gap n 0 c = rw z at (gap_more d 0 c l) in
      omega arith

  ordered : (d r c u : ℕ) → r < size n d → u < size n c → ltb d c || (eqb d c && first_by_places (digits n d r) (digits n c u)) ≡ ltb (gap n 0 d + r) (gap n 0 c + u)
  ordered d r c u h g =
      by (ltb d c)
      (λ e. rw e (sym (lt-ltb (gap n 0 d + r) (gap n 0 c + u) (shorter d r c u h (ltb-true d c e)))))
      (λ e.
      by (eqb d c)
      (λ z. rw (e, z) (rw (← (eqb-true d c z)) (one-length d r u h (rw (← (eqb-true d c z)) at g))))
      (λ z.
      let x : d ≡ c → ⊥ = eqb-false d c z in
      let y : c ≤ d = ltb-false d c e in
      let w : c < d = omega arith in
      rw (e, z) (sym (le-ltb (gap n 0 d + r) (gap n 0 c + u) (omega (arith, shorter c u d r g w))))))

  pub list-order : (k j : ℕ) → k < count_of n → j < count_of n → comes_before (list_at n k) (list_at n j) ≡ ltb k j
  unfolding comes_before
  list-order k j h g =
      let s = known k h in
      let t = known j g in
      rw (s.list, t.list, length_digits n s.d s.r, length_digits n t.d t.r)
      (ordered s.d s.r t.d t.r s.less t.less ∙ (λ i. ltb (sym s.sum i) (sym t.sum i)))
