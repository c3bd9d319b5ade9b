-- A part of words that is there is what `get` finds. Assumes nothing.
use Prim.Native.Nat.{ℕ, ◌-◌, ◌≤◌}
use native.Mathlib.Omega.{arith}
use mathlib.Core.Logic.{inl, inr}
use mathlib.Core.Path.{◌≡◌}
use mathlib.Core.List.{List}
use lib.ListN.{length, take, drop}
use Rattle.std.specs.Prelude.{Option, None, Some}
use Rattle.std.specs.Option.{unwrap_or}
use Rattle.std.specs.Borrow.{Bor}
use Rattle.std.specs.Slice.{IsGetRangeResult}

pub found : (w : List ℕ) (from to : ℕ) (r : Option (Bor (List ℕ))) (d : Bor (List ℕ)) → IsGetRangeResult w from to r → from ≤ to → to ≤ length w
    → (unwrap_or r d).now ≡ take (to - from) (drop from w)
found w from to None d g h l = absurd (elim g.0 [ inl x ↦ omega (arith, x, h) | inr x ↦ omega (arith, x, l) ])
found w from to (Some x) d g h l = g.0.2
