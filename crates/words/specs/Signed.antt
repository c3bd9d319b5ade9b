-- Signed integers. `to_z w n` of `mir.Val` is the number that the bits n stand for in two's complement, `of_z w z` the bits of z.
use Rattle.std.specs.Prelude.{Bool, false, ℕ, suc, ◌-◌, ◌%◌, ◌^◌, min, eqb, ℤ, pos, negsuc, ◌+ℤ◌}
use Rattle.std.specs.Int.{w32, w64}
use Rattle.std.proofs.Common.{to_z, of_z}

-- a signed word and a signed 64-bit number, by their bits; and the bits of a number
abbrev pub signed32 : ℕ → ℤ
signed32 n = to_z w32 n

abbrev pub signed64 : ℕ → ℤ
signed64 n = to_z w64 n

abbrev pub bits32 : ℤ → ℕ
bits32 z = of_z w32 z

abbrev pub bits64 : ℤ → ℕ
bits64 z = of_z w64 z

-- `i64::saturating_add`: the sum, saturating at -2^63 and 2^63 - 1. `negsuc n` is -(n + 1), so that both signs have one bound.
unfoldable pub clamped : ℤ → ℤ
clamped (pos n) = pos (min n (2 ^ 63 - 1))
clamped (negsuc n) = negsuc (min n (2 ^ 63 - 1))

abbrev pub saturating_add_i64 : ℤ → ℤ → ℤ
saturating_add_i64 a b = clamped (a +ℤ b)

-- `rem_euclid`: "the least nonnegative remainder of self (mod rhs)", for a positive rhs
abbrev pub rem_euclid : ℤ → ℕ → ℕ
rem_euclid (pos n) m = n % m
rem_euclid (negsuc n) m = m - suc (n % m)

abbrev pub eq_z : ℤ → ℤ → Bool
eq_z (pos a) (pos b) = eqb a b
eq_z (pos a) (negsuc b) = false
eq_z (negsuc a) (pos b) = false
eq_z (negsuc a) (negsuc b) = eqb a b
