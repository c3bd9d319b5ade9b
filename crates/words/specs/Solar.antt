-- The solar time: the minute of the day and the remainder of the offset, both from one division that rounds toward zero. Document 01, and document 02,
-- request 4.
use Rattle.std.specs.Prelude.{◌≡◌, Bool, true, false, List, [], ◌∷◌, ℕ, zero, suc, ◌<◌, ℤ, pos, negsuc, nat_abs, ◌+ℤ◌, ◌*ℤ◌}
use Rattle.std.specs.Int.Signed.{quot_z, rem_z}
use Rattle.words.specs.Signed.{signed32, bits32, rem_euclid}
use Rattle.words.specs.declared.SolarTime.{SolarTime}

-- whole minutes of an offset in milliseconds, and what is left
abbrev pub minutes_in : ℤ → ℤ
minutes_in z = quot_z z (pos 60000)

abbrev pub rest_of : ℤ → ℤ
rest_of z = rem_z z (pos 60000)

-- `(base + offset_ms / 60_000).rem_euclid(1_440)` and `offset_ms % 60_000`; the offset is a signed word
unfoldable pub solar_time : ℕ → ℕ → SolarTime
solar_time base offset = record { minute = rem_euclid (pos base +ℤ minutes_in (signed32 offset)) 1440; remainder = rest_of (signed32 offset) }

-- the minute, and the remainder as two's complement
abbrev pub solar_words : SolarTime → List ℕ
solar_words t = t.minute ∷ bits32 t.remainder ∷ []

-- THE DIVISION
-- r is 0, or has the sign of z
abbrev pub no_other_sign : ℤ → ℤ → Bool
no_other_sign (pos a) (pos b) = true
no_other_sign (pos a) (negsuc b) = false
no_other_sign (negsuc a) (pos zero) = true
no_other_sign (negsuc a) (pos (suc b)) = false
no_other_sign (negsuc a) (negsuc b) = true

-- q minutes and r milliseconds are z milliseconds, as a division that rounds toward zero has it
pub record Divided (z q r : ℤ) : Type 0 where
  pub sum : q *ℤ pos 60000 +ℤ r ≡ z
  pub sign : no_other_sign z r ≡ true
  pub small : nat_abs r < 60000
