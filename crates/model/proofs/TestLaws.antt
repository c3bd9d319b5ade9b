-- More laws of tests: by cases of one, of numbers that are compared, and over the numbers below n. Assumes nothing.
use mathlib.Core.Path.{◌≡◌, refl, sym, ap₂, ◌∙◌}
use mathlib.Core.Bool.{Bool, true, false, ◌&&◌, and-true, and_assoc}
use Prim.Native.Nat.{ℕ, zero, suc, ◌+◌}
use lib.Dec.{eqb}
use borrow.Author.Tests.{eqb-true, eqb-false, eq-eqb, ne_eqb}
use Rattle.model.specs.Lists.{every, total}

-- go on by cases of a test
pub by : {A : Type 0} (b : Bool) → (b ≡ true → A) → (b ≡ false → A) → A
by true f g = f refl
by false f g = g refl

pub eqb-sym : (a b : ℕ) → eqb a b ≡ eqb b a
eqb-sym a b = by (eqb b a) (λ e. eq-eqb a b (sym (eqb-true b a e)) ∙ sym e) (λ e. ne_eqb a b (λ f. eqb-false b a e (sym f)) ∙ sym e)

-- five tests, as `all` of a list joins them and as `every 5` does
pub regrouped : (a b c d e : Bool) → a && (b && (c && (d && (e && true)))) ≡ (((a && b) && c) && d) && e
regrouped true true true true e = and-true e
regrouped true true true false e = refl
regrouped true true false d e = refl
regrouped true false c d e = refl
regrouped false b c d e = refl

-- AT EVERY NUMBER BELOW n -------------------------------------------------------------------------------------------------------------
pub every_first : (n : ℕ) (f : ℕ → Bool) → every (suc n) f ≡ f zero && every n (λ i. f (suc i))
unfolding every
every_first zero f = sym (and-true (f zero))
every_first (suc n) f = rw (every_first n f) (and_assoc (f zero) (every n (λ i. f (suc i))) (f (suc n)))

pub every-same : (n : ℕ) (f g : ℕ → Bool) → ((i : ℕ) → f i ≡ g i) → every n f ≡ every n g
unfolding every
every-same zero f g h = refl
every-same (suc n) f g h = rw (every-same n f g h, h n)

pub total-same : (n : ℕ) (f g : ℕ → ℕ) → ((i : ℕ) → f i ≡ g i) → total n f ≡ total n g
unfolding total
total-same zero f g h = refl
total-same (suc n) f g h = ap₂ ◌+◌ (total-same n f g h) (h n)
