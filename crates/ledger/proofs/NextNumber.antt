-- The number of the next activation: it was given once it is taken, and is the one behind the last unless the call is refused (32).
use mathlib.Core.Path.{◌≡◌}
use Prim.Native.Nat.{ℕ, suc, ◌≤◌}
use native.Mathlib.Omega.{arith}
use Rattle.words.specs.Saturating.{saturating_add, max64}
use Rattle.model.specs.State.{next_number}

pub next-positive : (n : ℕ) → 1 ≤ next_number n
unfolding saturating_add
next-positive n = omega arith

pub next-given : (n : ℕ) → next_number n ≤ suc n
unfolding saturating_add
next-given n = omega arith

pub next-is : (n : ℕ) → suc n ≤ max64 → next_number n ≡ suc n
unfolding saturating_add
next-is n h = omega arith
