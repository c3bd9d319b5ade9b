-- What users of this crate have to know of its definitions. Assumes nothing.
use mathlib.Core.Path.{◌≡◌, refl, ap}
use Rattle.std.specs.Int.{saturate_signed}
use Prim.Native.Nat.{ℕ, min, ◌+◌, ◌^◌, ◌≤◌, ◌<◌}
use native.Mathlib.Omega.{arith}
use lib.IntN.{ℤ, pos, negsuc, ◌+ℤ◌}
use mir.Syntax.{w64}
use mir.Val.{SFits}
use mir.Facts.{to_z-of_z, of_z-to_z}
use Rattle.words.specs.Saturating.{saturating_add}
use Rattle.words.specs.Pairs.{joined, low_of, high_of}
use Rattle.words.specs.Signed.{signed32, signed64, bits64, clamped, rem_euclid}
use Rattle.words.specs.Solar.{minutes_in, solar_time}

-- ---- what the library's `saturating_add` gives; of `saturating_sub`, `cast_signed` and `cast_unsigned` nothing is to be shown
pub sum_is : (most x y : ℕ) → min (x + y) most ≡ saturating_add most x y
unfolding saturating_add
sum_is most x y = refl

pub signed-sum-is : (z : ℤ) → saturate_signed w64 z ≡ clamped z
unfolding clamped
signed-sum-is (pos n) = refl
signed-sum-is (negsuc n) = refl

-- ---- a saturating sum, of a type whose largest number is `most`
pub add-at-most : (most x y : ℕ) → saturating_add most x y ≤ most
unfolding saturating_add
add-at-most most x y = omega arith

module _ (most x y : ℕ) where
  pub add-within : x + y ≤ most → saturating_add most x y ≡ x + y
  unfolding saturating_add
  add-within h = omega arith

  pub add-beyond : most ≤ x + y → saturating_add most x y ≡ most
  unfolding saturating_add
  add-beyond h = omega arith

  pub add-at-least : x ≤ most → x ≤ saturating_add most x y
  unfolding saturating_add
  add-at-least h = omega arith

-- ---- a number and its two words
pub joined_words : (n : ℕ) → joined (low_of n) (high_of n) ≡ n
unfolding joined low_of high_of
joined_words n = omega arith

module _ (low high : ℕ) (fits : low < 2 ^ 32) where
  pub low-joined : low_of (joined low high) ≡ low
  unfolding joined low_of
  low-joined = omega arith

  pub high-joined : high_of (joined low high) ≡ high
  unfolding joined high_of
  high-joined = omega arith

-- ---- a signed number and its bits
pub signed-bits : (z : ℤ) → SFits w64 z → signed64 (bits64 z) ≡ z
signed-bits z f = to_z-of_z f

pub bits-signed : (n : ℕ) → n < 2 ^ 64 → bits64 (signed64 n) ≡ n
bits-signed n h = of_z-to_z {w = w64} (record { fits = h })

-- ---- a saturating sum of signed numbers
pub clamped-fits : (z : ℤ) → SFits w64 (clamped z)
unfolding clamped
clamped-fits (pos n) = record { sfits = omega arith }
clamped-fits (negsuc n) = record { sfits = omega arith }

pub clamped-within : (z : ℤ) → SFits w64 z → clamped z ≡ z
unfolding clamped
clamped-within (pos n) f = let h : n < 2 ^ 63 = f.sfits in ap pos (omega arith)
clamped-within (negsuc n) f = let h : n < 2 ^ 63 = f.sfits in ap negsuc (omega arith)

-- ---- the minute of the day
rem_below : (z : ℤ) → rem_euclid z 1440 < 1440
rem_below (pos n) = omega arith
rem_below (negsuc n) = omega arith

pub solar-below : (base offset : ℕ) → (solar_time base offset).minute < 1440
unfolding solar_time
solar-below base offset = rem_below (pos base +ℤ minutes_in (signed32 offset))
