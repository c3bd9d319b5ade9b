-- The minute of the day and the remainder, as the code computes them: every number on the way fits its type. Assumes nothing.
use mathlib.Core.Path.{◌≡◌, ap, ◌∙◌}
use Prim.Native.Nat.{ℕ, zero, suc, ◌/◌, ◌%◌, ◌^◌, ◌≤◌, ◌<◌}
use native.Mathlib.Omega.{arith}
use Rattle.std.specs.Int.{int_rem_euclid}
use lib.IntN.{ℤ, pos, negsuc, nat_abs, neg_ℤ, ◌+ℤ◌}
use lib.Signed.{mag, quot_z, rem_z}
use mir.Syntax.{w32, w64}
use mir.Val.{Fits, SFits, to_z, of_z}
use mir.Facts.{sfits_to_z, to_z-of_z}
use Rattle.std.proofs.lemmas.Int.{ints}
use Rattle.words.specs.Signed.{rem_euclid}
use Rattle.words.specs.Solar.{solar_time}

-- a number that is read from where it was stored
abbrev stored : ℤ → ℤ
stored z = to_z w64 (of_z w64 z)

abbrev stored32 : ℤ → ℤ
stored32 z = to_z w32 (of_z w32 z)

negative : (q n : ℕ) → q ≤ suc n → mag (neg_ℤ (pos q)) ≤ n
negative zero n h = omega arith
negative (suc q) n h = omega arith

quotient-within : (z : ℤ) → mag (quot_z z (pos 60000)) ≤ mag z
quotient-within (pos n) = omega arith
quotient-within (negsuc n) = negative (suc n / 60000) n (omega arith)

sum-fits : (base : ℕ) (q : ℤ) → base < 2 ^ 32 → mag q < 2 ^ 31 → SFits w64 (pos base +ℤ q)
sum-fits base (pos n) h k = record { sfits = omega arith }
sum-fits base (negsuc n) h k = record { sfits = grind (arith, ints) }

remainder : (z : ℤ) → nat_abs (stored (int_rem_euclid z (pos 1440))) ≡ rem_euclid z 1440
remainder (pos n) = omega (arith, ints)
remainder (negsuc n) = omega (arith, ints)

rest-within : (z : ℤ) → mag (rem_z z (pos 60000)) < 60000
rest-within (pos n) = omega arith
rest-within (negsuc n) = small (suc n % 60000) (omega arith)
  where
    small : (r : ℕ) → r < 60000 → mag (neg_ℤ (pos r)) < 60000
    small zero h = omega arith
    small (suc r) h = omega arith

pub solar-is :
    (base offset : ℕ) → base < 2 ^ 32 → Fits w32 offset → (s b d r : ℤ)
    → s ≡ to_z w32 offset → b ≡ pos base → d ≡ stored32 (quot_z (stored32 s) (pos 60000))
    → r ≡ int_rem_euclid (stored (stored b +ℤ stored d)) (pos 1440)
    → record { minute = nat_abs (stored r); remainder = stored32 (rem_z (stored32 s) (pos 60000)) } ≡ solar_time base offset
unfolding solar_time
solar-is base offset h f s b d r es eb ed er =
    let fs : SFits w32 s = rw es (sfits_to_z f) in
    let rs : stored32 s ≡ s = to_z-of_z fs in
    let fq : mag (quot_z s (pos 60000)) < 2 ^ 31 = omega (arith, quotient-within s, fs.sfits) in
    let fw : SFits w32 (quot_z s (pos 60000)) = record { sfits = omega arith } in
    let fd : SFits w64 (quot_z s (pos 60000)) = record { sfits = omega arith } in
    let fb : SFits w64 (pos base) = record { sfits = omega arith } in
    let fr : SFits w32 (rem_z s (pos 60000)) = record { sfits = omega (arith, rest-within s) } in
    let sum : SFits w64 (pos base +ℤ quot_z s (pos 60000)) = sum-fits base (quot_z s (pos 60000)) h fq in
    let q : d ≡ quot_z s (pos 60000) = ed ∙ ap (λ z. stored32 (quot_z z (pos 60000))) rs ∙ to_z-of_z fw in
    let inner : stored (stored b +ℤ stored d) ≡ pos base +ℤ quot_z s (pos 60000) =
    rw (eb, q, to_z-of_z fb, to_z-of_z fd) (to_z-of_z sum) in
    let minute : nat_abs (stored r) ≡ rem_euclid (pos base +ℤ quot_z s (pos 60000)) 1440 =
    ap (λ z. nat_abs (stored z)) (er ∙ ap (λ z. int_rem_euclid z (pos 1440)) inner) ∙ remainder (pos base +ℤ quot_z s (pos 60000)) in
    let rest : stored32 (rem_z (stored32 s) (pos 60000)) ≡ rem_z s (pos 60000) =
    ap (λ z. stored32 (rem_z z (pos 60000))) rs ∙ to_z-of_z fr in
    (λ i. record { minute = minute i; remainder = rest i })
    ∙ ap (λ z. record { minute = rem_euclid (pos base +ℤ quot_z z (pos 60000)) 1440; remainder = rem_z z (pos 60000) }) es
