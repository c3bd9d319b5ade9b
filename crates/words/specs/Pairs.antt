-- A 64-bit value is two words, low first.
use Rattle.std.specs.Prelude.{ℕ, ◌+◌, ◌*◌, ◌/◌, ◌%◌, ◌^◌}

unfoldable pub joined : ℕ → ℕ → ℕ
joined low high = low + 2 ^ 32 * high

unfoldable pub low_of : ℕ → ℕ
low_of n = n % 2 ^ 32

unfoldable pub high_of : ℕ → ℕ
high_of n = n / 2 ^ 32
