-- Saturating arithmetic of unsigned integers, as the Rust standard library documents it: "Saturating integer addition. Computes
-- self + rhs, saturating at the numeric bounds instead of overflowing", and the same of subtraction. Said once for all widths.
use Rattle.std.specs.Prelude.{ℕ, ◌+◌, ◌-◌, ◌^◌, min}

-- the largest numbers of 32 and 64 bits
abbrev pub max32 : ℕ
max32 = 2 ^ 32 - 1

abbrev pub max64 : ℕ
max64 = 2 ^ 64 - 1

-- `saturating_add`, of a type whose largest number is `most`
unfoldable pub saturating_add : ℕ → ℕ → ℕ → ℕ
saturating_add most x y = min (x + y) most

-- `saturating_sub`: the lower bound of every unsigned type is 0, as that of the difference of ℕ is
unfoldable pub saturating_sub : ℕ → ℕ → ℕ
saturating_sub x y = x - y
