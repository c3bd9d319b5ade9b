-- A bit past the word. Assumes nothing.
use mathlib.Core.Path.{◌≡◌}
use mathlib.Core.Bool.{false}
use Prim.Native.Nat.{ℕ, ◌^◌, ◌<◌, ◌≤◌, ◌/◌}
use native.Mathlib.Nat.{div-eq_of_lt, lt_of_lt_of_le}
use lib.Pow.{pow_mono}
use Rattle.model.specs.Arith.{has_day}

-- a bit past the word
pub no_day : (days day : ℕ) → days < 2 ^ 32 → 32 ≤ day → false ≡ has_day days day
unfolding has_day
no_day days day h l = let e : days / 2 ^ day ≡ 0 = div-eq_of_lt (lt_of_lt_of_le h (pow_mono l)) in rw e
