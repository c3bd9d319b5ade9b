-- The digits of small numbers. Assumes nothing.
use mathlib.Core.Path.{◌≡◌, refl}
use mathlib.Core.List.{[], ◌∷◌}
use Prim.Native.Nat.{ℕ, ◌+◌, ◌/◌, ◌%◌, ◌<◌, ◌≤◌}
use native.Mathlib.Omega.{arith}
use borrow.Author.Tests.{lt-ltb, ne_eqb}
use Rattle.std.specs.Fmt.{decimal, digits}

pub one-digit : (n : ℕ) → n < 10 → decimal n ≡ (48 + n % 10) ∷ []
unfolding digits
one-digit n h =
    let q : n / 10 ≡ 0 = omega arith in
    let r : n % 10 < 10 = omega arith in
    rw (q, lt-ltb (n % 10) 10 r) refl

pub two-digits : (n : ℕ) → 10 ≤ n → n < 100 → decimal n ≡ (48 + n / 10 % 10) ∷ (48 + n % 10) ∷ []
unfolding digits
two-digits n l h =
    let q : n / 10 / 10 ≡ 0 = omega arith in
    let s : n / 10 % 10 < 10 = omega arith in
    let u : n % 10 < 10 = omega arith in
    rw (ne_eqb (n / 10) 0 (λ e. omega arith), q, lt-ltb (n / 10 % 10) 10 s, lt-ltb (n % 10) 10 u) refl

pub three-digits : (n : ℕ) → 100 ≤ n → n < 1000 → decimal n ≡ (48 + n / 100) ∷ (48 + n / 10 % 10) ∷ (48 + n % 10) ∷ []
unfolding digits
three-digits n l h =
    let q : n / 10 / 10 / 10 ≡ 0 = omega arith in
    let h : n / 10 / 10 ≡ n / 100 = omega arith in
    let r : n / 100 % 10 ≡ n / 100 = omega arith in
    let t : n / 100 < 10 = omega arith in
    let s : n / 10 % 10 < 10 = omega arith in
    let u : n % 10 < 10 = omega arith in
    rw (ne_eqb (n / 10) 0 (λ e. omega arith), ne_eqb (n / 10 / 10) 0 (λ e. omega arith), q, h, r, lt-ltb (n / 100) 10 t, lt-ltb (n / 10 % 10) 10 s, lt-ltb (n % 10) 10 u) refl
