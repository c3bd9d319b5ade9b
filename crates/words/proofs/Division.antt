-- The three laws of the division, and that no other pair has them. Assumes nothing.
use mathlib.Core.Path.{◌≡◌, refl, sym, ap, ◌∙◌}
use mathlib.Core.Bool.{true, false≢true}
use Prim.Native.Nat.{ℕ, zero, suc, ◌+◌, ◌*◌, ◌/◌, ◌%◌, ◌^◌, ◌-◌, ◌<◌}
use native.Mathlib.Omega.{arith}
use lib.IntN.{ℤ, pos, negsuc, nat_abs, neg_ℤ, ◌+ℤ◌, ◌*ℤ◌, neg_ℤ-neg_ℤ, neg_ℤ-+ℤ, zero-*ℤ, pos-*ℤ-pos, negsuc-*ℤ-pos, pos-+ℤ-pos, +ℤ_assoc, +ℤ_invr, +ℤ_idl}
use Rattle.words.specs.Signed.{signed32}
use Rattle.words.specs.Solar.{minutes_in, rest_of, solar_time, no_other_sign, Divided}

neg-times : (q : ℤ) (n : ℕ) → neg_ℤ q *ℤ pos n ≡ neg_ℤ (q *ℤ pos n)
neg-times (pos zero) n = zero-*ℤ (pos n) ∙ ap neg_ℤ (sym (zero-*ℤ (pos n)))
neg-times (pos (suc m)) n = negsuc-*ℤ-pos m n ∙ ap neg_ℤ (sym (pos-*ℤ-pos (suc m) n))
neg-times (negsuc m) n = pos-*ℤ-pos (suc m) n ∙ sym (ap neg_ℤ (negsuc-*ℤ-pos m n) ∙ neg_ℤ-neg_ℤ (pos (suc m * n)))

-- an equation of the division, with all signs turned
turned : (q r : ℤ) (n : ℕ) → neg_ℤ q *ℤ pos n +ℤ neg_ℤ r ≡ neg_ℤ (q *ℤ pos n +ℤ r)
turned q r n = ap (λ (z : ℤ). z +ℤ neg_ℤ r) (neg-times q n) ∙ sym (neg_ℤ-+ℤ (q *ℤ pos n) r)

natural : (q r n : ℕ) → pos q *ℤ pos n +ℤ pos r ≡ pos (q * n + r)
natural q r n = ap (λ (z : ℤ). z +ℤ pos r) (pos-*ℤ-pos q n) ∙ pos-+ℤ-pos (q * n) r

-- EXISTENCE ---------------------------------------------------------------------------------------------------------------------
size-of-neg : (n : ℕ) → nat_abs (neg_ℤ (pos n)) ≡ n
size-of-neg zero = refl
size-of-neg (suc n) = refl

neg-sign : (a n : ℕ) → no_other_sign (negsuc a) (neg_ℤ (pos n)) ≡ true
neg-sign a zero = refl
neg-sign a (suc n) = refl

pub divided : (z : ℤ) → Divided z (minutes_in z) (rest_of z)
divided (pos a) =
    record {
      sum = natural (a / 60000) (a % 60000) 60000 ∙ ap pos (let e : a / 60000 * 60000 + a % 60000 ≡ a = omega arith in e);
      sign = refl;
      small = (let l : a % 60000 < 60000 = omega arith in l);
    }
divided (negsuc a) =
    record {
      sum =
          turned (pos (suc a / 60000)) (pos (suc a % 60000)) 60000
          ∙ ap neg_ℤ (natural (suc a / 60000) (suc a % 60000) 60000 ∙ ap pos (let e : suc a / 60000 * 60000 + suc a % 60000 ≡ suc a = omega arith in e));
      sign = neg-sign a (suc a % 60000);
      small = rw (size-of-neg (suc a % 60000)) (let l : suc a % 60000 < 60000 = omega arith in l);
    }

-- UNIQUENESS --------------------------------------------------------------------------------------------------------------------
pos-inj : {a b : ℕ} → pos a ≡ pos b → a ≡ b
pos-inj e = ap nat_abs e

moved : (n b a : ℕ) → neg_ℤ (pos n) +ℤ pos b ≡ pos a → b ≡ n + a
moved n b a e =
    pos-inj
    (sym (+ℤ_idl (pos b))
    ∙ ap (λ (z : ℤ). z +ℤ pos b) (sym (+ℤ_invr (pos n)))
    ∙ +ℤ_assoc (pos n) (neg_ℤ (pos n)) (pos b)
    ∙ ap (λ (z : ℤ). pos n +ℤ z) e
    ∙ pos-+ℤ-pos n a)

above : (a b : ℕ) (q : ℤ) → b < 60000 → q *ℤ pos 60000 +ℤ pos b ≡ pos a → (q ≡ pos (a / 60000)) × (b ≡ a % 60000)
above a b (pos c) l e =
    let s : c * 60000 + b ≡ a = pos-inj (sym (natural c b 60000) ∙ e) in
    let f : c ≡ a / 60000 = omega arith in
    (ap pos f, omega arith)
above a b (negsuc c) l e =
    let s : b ≡ suc c * 60000 + a = moved (suc c * 60000) b a (ap (λ (z : ℤ). z +ℤ pos b) (sym (negsuc-*ℤ-pos c 60000)) ∙ e) in
    absurd (omega arith)

below : (a b : ℕ) (q r : ℤ) → neg_ℤ r ≡ pos b → b < 60000 → q *ℤ pos 60000 +ℤ r ≡ negsuc a → (q ≡ minutes_in (negsuc a)) × (r ≡ rest_of (negsuc a))
below a b q r f l e =
    let s : neg_ℤ q *ℤ pos 60000 +ℤ pos b ≡ pos (suc a) = ap (λ (z : ℤ). neg_ℤ q *ℤ pos 60000 +ℤ z) (sym f) ∙ turned q r 60000 ∙ ap neg_ℤ e in
    let u = above (suc a) b (neg_ℤ q) l s in
    (sym (neg_ℤ-neg_ℤ q) ∙ ap neg_ℤ u.0, sym (neg_ℤ-neg_ℤ r) ∙ ap neg_ℤ (f ∙ ap pos u.1))

pub only : (z q r : ℤ) → Divided z q r → (q ≡ minutes_in z) × (r ≡ rest_of z)
only (pos a) q (pos b) d = let u = above a b q d.small d.sum in (u.0, ap pos u.1)
only (pos a) q (negsuc b) d = absurd (false≢true d.sign)
only (negsuc a) q (pos zero) d = below a 0 q (pos zero) refl (omega arith) d.sum
only (negsuc a) q (pos (suc b)) d = absurd (false≢true d.sign)
only (negsuc a) q (negsuc b) d = below a (suc b) q (negsuc b) refl d.small d.sum

-- OF A SOLAR TIME -----------------------------------------------------------------------------------------------------------------
-- the three laws for every offset word, and no other pair has them
pub of-offset : (base offset : ℕ) → Divided (signed32 offset) (minutes_in (signed32 offset)) (solar_time base offset).remainder
unfolding solar_time
of-offset base offset = divided (signed32 offset)

pub no-other : (base offset : ℕ) (q r : ℤ) → Divided (signed32 offset) q r → (q ≡ minutes_in (signed32 offset)) × (r ≡ (solar_time base offset).remainder)
unfolding solar_time
no-other base offset q r d = only (signed32 offset) q r d

-- sunrise 10: a minute and a half before counts as one, half a minute as none, and 15 minutes go round the day
examples :
    (solar_time 10 (2 ^ 32 - 90000) ≡ record { minute = 9; remainder = neg_ℤ (pos 30000) })
    × (solar_time 10 (2 ^ 32 - 30000) ≡ record { minute = 10; remainder = neg_ℤ (pos 30000) })
    × (solar_time 10 (2 ^ 32 - 900000) ≡ record { minute = 1435; remainder = pos 0 })
    × ((solar_time 10 (2 ^ 31)).remainder ≡ neg_ℤ (pos 23648))
    × ((solar_time 10 (2 ^ 31 - 1)).remainder ≡ pos 23647)
unfolding solar_time
examples = (refl, refl, refl, refl, refl)
