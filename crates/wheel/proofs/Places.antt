-- Chains over a range of numbers, where the specification goes over the numbers. Assumes nothing.
use mathlib.Core.Path.{◌≡◌, refl, ap}
use mathlib.Core.Bool.{Bool, ◌||◌}
use Prim.Native.Nat.{ℕ, zero, suc}
use native.Mathlib.Numerals.{add-one}
use Rattle.std.specs.List.{list_any, range_with_len}
use Rattle.model.specs.Lists.{any, up_from}

pub any-numbers : (p : ℕ → Bool) (i n : ℕ) → list_any p (range_with_len i n) ≡ any p (up_from i n)
any-numbers p i zero = refl
any-numbers p i (suc n) = ap (λ (b : Bool). p i || b) (rw add-one (any-numbers p (suc i) n))
